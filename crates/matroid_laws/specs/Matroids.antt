-- A matroid on the labels 1..n, by the test of which sets are independent; its bases and ranks.
use Rattle.std.specs.Prelude.{◌≡◌, ℕ, ◌^◌, ◌<◌, ◌≤◌, Bool, true, false, not, ◌&&◌, ◌↔◌, List, nat_le, nat_lt}
use Rattle.labels.specs.Sets.{has, insert, remove, Subset, card, no_label}
use Rattle.labels.specs.Families.{family, In, Once}

-- the laws of a matroid
pub record IsMatroid (n : ℕ) (independent : ℕ → Bool) : Type 0 where
  -- an independent set lies within 1..n
  pub inside : (s : ℕ) → independent s ≡ true → s < 2 ^ n
  pub empty : independent 0 ≡ true
  pub hereditary : (s t : ℕ) → Subset s t → independent t ≡ true → independent s ≡ true
  -- of two independent sets, some label of the larger can join the smaller
  pub augments : (s t : ℕ) → independent s ≡ true → independent t ≡ true → card s < card t
      → (e : ℕ) × (has t e ≡ true) × (has s e ≡ false) × (independent (insert s e) ≡ true)

-- a base: an independent set that no label can join
pub record Base (n : ℕ) (independent : ℕ → Bool) (b : ℕ) : Type 0 where
  pub is_independent : independent b ≡ true
  pub full : (e : ℕ) → 1 ≤ e → e ≤ n → has b e ≡ false → independent (insert b e) ≡ false

-- the test for a base
abbrev pub is_base : ℕ → (ℕ → Bool) → ℕ → Bool
is_base n independent b = independent b && no_label (λ e. not (has b e) && independent (insert b e)) n

-- all bases, found by the test over all sets within 1..n, the largest number first
abbrev pub bases : ℕ → (ℕ → Bool) → List ℕ
bases n independent = family n (is_base n independent)

-- r is the rank of s: some independent part of s has r labels, and none has more
pub record Rank (independent : ℕ → Bool) (s r : ℕ) : Type 0 where
  pub part : ℕ
  pub within : Subset part s
  pub is_independent : independent part ≡ true
  pub reached : card part ≡ r
  pub most : (t : ℕ) → Subset t s → independent t ≡ true → card t ≤ r

-- an example: all sets within 1..n of at most r labels
abbrev pub uniform : ℕ → ℕ → ℕ → Bool
uniform n r s = nat_lt s (2 ^ n) && nat_le (card s) r

-- ---- what is claimed of every matroid

-- the test tells the bases
abbrev pub TestedBases : Type 0
TestedBases = (n : ℕ) (independent : ℕ → Bool) (b : ℕ) → (is_base n independent b ≡ true) ↔ Base n independent b

-- the list holds the bases, each once
abbrev pub ListedBases : Type 0
ListedBases = (n : ℕ) (independent : ℕ → Bool) → IsMatroid n independent
    → Once (bases n independent) × ((b : ℕ) → In b (bases n independent) ↔ Base n independent b)

-- all bases have the same number of labels
abbrev pub OneCard : Type 0
OneCard = (n : ℕ) (independent : ℕ → Bool) → IsMatroid n independent → (a b : ℕ) → Base n independent a → Base n independent b → card a ≡ card b

-- d of the base t goes out, and some f of b comes in
abbrev pub ExchangeOut : Type 0
ExchangeOut = (n : ℕ) (independent : ℕ → Bool) → IsMatroid n independent → (t b d : ℕ) → Base n independent t → Base n independent b
    → has t d ≡ true → has b d ≡ false → (f : ℕ) × (has b f ≡ true) × (has t f ≡ false) × Base n independent (insert (remove t d) f)

-- d of b comes into the base t, and some f goes out
abbrev pub ExchangeIn : Type 0
ExchangeIn = (n : ℕ) (independent : ℕ → Bool) → IsMatroid n independent → (t b d : ℕ) → Base n independent t → Base n independent b
    → has b d ≡ true → has t d ≡ false → (f : ℕ) × (has t f ≡ true) × (has b f ≡ false) × Base n independent (remove (insert t d) f)

-- the laws can be met
abbrev pub UniformIs : Type 0
UniformIs = (n r : ℕ) → IsMatroid n (uniform n r)
