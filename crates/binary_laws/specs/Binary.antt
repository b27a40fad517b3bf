-- Binary matroids: label e carries the word v e, a vector over two elements whose places are its binary digits.
use Rattle.std.specs.Prelude.{◌≡◌, ℕ, zero, suc, ◌%◌, ◌^◌, ◌<◌, Bool, true, cond, ◌&&◌, ◌↔◌, ◌==◌, bit_xor, nat_lt}
use Rattle.labels.specs.Sets.{has, Subset, is_subset, card, no_label, passing}
use Rattle.matroid_laws.specs.Matroids.{IsMatroid}

-- the sum of the words of the labels of t among 1..n
unfoldable pub xor_sum : (ℕ → ℕ) → ℕ → ℕ → ℕ
xor_sum v zero t = 0
xor_sum v (suc n) t = bit_xor (xor_sum v n t) (cond (has t (suc n)) (v (suc n)) 0)

-- s is within 1..n, and no part of it but the empty one has the sum 0
abbrev pub binary : ℕ → (ℕ → ℕ) → ℕ → Bool
binary n v s = nat_lt s (2 ^ n) && no_label (λ t. is_subset t s && xor_sum v n t == 0) s

-- the same in words
pub record LinearlyIndependent (n : ℕ) (v : ℕ → ℕ) (s : ℕ) : Type 0 where
  pub inside : s < 2 ^ n
  pub free : (t : ℕ) → Subset t s → xor_sum v n t ≡ 0 → t ≡ 0

-- how many labels of t have a word with the place k
abbrev pub times : ℕ → (ℕ → ℕ) → ℕ → ℕ → ℕ
times n v t k = card (passing (λ e. has t e && has (v e) k) n)

-- s is within 1..n, and no part t of it but the empty one has an even count at every place
pub record NoEvenPart (n : ℕ) (count : ℕ → ℕ → ℕ) (s : ℕ) : Type 0 where
  pub inside : s < 2 ^ n
  pub odd : (t : ℕ) → Subset t s → ((k : ℕ) → count t k % 2 ≡ 0) → t ≡ 0

-- ---- what is claimed

-- the laws of a matroid hold of any words
abbrev pub BinaryIs : Type 0
BinaryIs = (n : ℕ) (v : ℕ → ℕ) → IsMatroid n (binary n v)

-- the test tells linear independence
abbrev pub BinaryMeans : Type 0
BinaryMeans = (n : ℕ) (v : ℕ → ℕ) (s : ℕ) → (binary n v s ≡ true) ↔ LinearlyIndependent n v s

-- a sum is 0 where each place is met an even number of times
abbrev pub EvenPlaces : Type 0
EvenPlaces = (n : ℕ) (v : ℕ → ℕ) (t : ℕ) → (xor_sum v n t ≡ 0) ↔ ((k : ℕ) → times n v t k % 2 ≡ 0)

-- so each part of an independent set, but the empty one, meets some place an odd number of times, and such a set is independent
abbrev pub BinaryOdd : Type 0
BinaryOdd = (n : ℕ) (v : ℕ → ℕ) (s : ℕ) → (binary n v s ≡ true) ↔ NoEvenPart n (times n v) s
