-- Partition matroids: label e lies in the class `class_of e`, and the class i has the limit `most i`.
use Rattle.std.specs.Prelude.{◌≡◌, ℕ, ◌^◌, ◌<◌, ◌≤◌, Bool, true, ◌&&◌, ltb, ◌↔◌, ◌==◌, nat_lt}
use Rattle.labels.specs.Sets.{has, card, no_label, passing}
use Rattle.matroid_laws.specs.Matroids.{IsMatroid}

-- the labels of s, among 1..n, that lie in class i
abbrev pub part_in : ℕ → (ℕ → ℕ) → ℕ → ℕ → ℕ
part_in n class_of s i = passing (λ e. has s e && class_of e == i) n

-- s is within 1..n, and has in none of the classes 1..m more labels than the class's limit; a label in no such class is free
abbrev pub partition : ℕ → ℕ → (ℕ → ℕ) → (ℕ → ℕ) → ℕ → Bool
partition n m class_of most s = nat_lt s (2 ^ n) && no_label (λ i. ltb (most i) (card (part_in n class_of s i))) m

-- the same in words
pub record WithinLimits (n m : ℕ) (class_of most : ℕ → ℕ) (s : ℕ) : Type 0 where
  pub inside : s < 2 ^ n
  pub few : (i : ℕ) → 1 ≤ i → i ≤ m → card (part_in n class_of s i) ≤ most i

-- ---- what is claimed

-- the laws of a matroid hold of any classes and limits
abbrev pub PartitionIs : Type 0
PartitionIs = (n m : ℕ) (class_of most : ℕ → ℕ) → IsMatroid n (partition n m class_of most)

-- the test tells the sets within the limits
abbrev pub PartitionMeans : Type 0
PartitionMeans = (n m : ℕ) (class_of most : ℕ → ℕ) (s : ℕ) → (partition n m class_of most s ≡ true) ↔ WithinLimits n m class_of most s
