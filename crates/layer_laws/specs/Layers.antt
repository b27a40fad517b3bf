-- Matroids made from a matroid below: truncation, dual and minor.
use Rattle.std.specs.Prelude.{◌≡◌, ℕ, ◌^◌, ◌<◌, Bool, true, ◌&&◌, ◌||◌, ◌⊎◌, ◌↔◌, ◌==◌, bit_and, bit_or, nat_le, nat_lt}
use Rattle.labels.specs.Sets.{full, difference, Subset, card, no_label}
use Rattle.matroid_laws.specs.Matroids.{IsMatroid, Base}
use Rattle.matroid_laws.specs.Greedy.{joins, greedy}

-- no label in common
abbrev pub apart : ℕ → ℕ → Bool
apart s t = bit_and s t == 0

-- the labels of 1..n outside s
abbrev pub complement : ℕ → ℕ → ℕ
complement n s = difference (full n) s

-- ---- truncation

-- s is independent below, and has at most k labels
abbrev pub truncated : (ℕ → Bool) → ℕ → ℕ → Bool
truncated independent k s = independent s && nat_le (card s) k

-- ---- the dual

-- s is within 1..n, and the labels of 1..n outside s contain a base below
pub record BaseOutside (n : ℕ) (independent : ℕ → Bool) (s : ℕ) : Type 0 where
  pub inside : s < 2 ^ n
  pub base : ℕ
  pub is_base : Base n independent base
  pub outside : Subset base (complement n s)

-- the test of it: s is within 1..n, and no label of s can join what greed keeps of the others
abbrev pub dual : ℕ → (ℕ → Bool) → ℕ → Bool
dual n independent s = nat_lt s (2 ^ n) && no_label (joins independent s (greedy n independent (complement n s))) n

-- ---- the minor

-- s has no label of ins or outs, and is independent below together with what greed keeps of ins
abbrev pub minor : ℕ → (ℕ → Bool) → ℕ → ℕ → ℕ → Bool
minor n independent ins outs s = apart s (bit_or ins outs) && independent (bit_or s (greedy n independent ins))

-- the same for a kept set and a removed set that are any two sets: even where the kept one is dependent, the empty set passes
abbrev pub pinned : (ℕ → Bool) → ℕ → ℕ → ℕ → Bool
pinned independent kept removed s = s == 0 || (apart s removed && independent (bit_or s kept))

-- what passes is empty, or has none of the removed labels and is independent below together with the kept ones
abbrev pub InMinor : (ℕ → Bool) → ℕ → ℕ → ℕ → Type 0
InMinor independent kept removed s = (s ≡ 0) ⊎ ((apart s removed ≡ true) × (independent (bit_or s kept) ≡ true))

-- ---- any kind of layer

-- the family that a layer of kind k makes of a matroid is a matroid again, and has exactly the sets that it means
pub record LayerLaws {K : Type 0} (family : K → ℕ → (ℕ → Bool) → ℕ → Bool) (means : K → ℕ → (ℕ → Bool) → ℕ → Type 0) : Type 0 where
  pub is_matroid : (k : K) (n : ℕ) (independent : ℕ → Bool) → IsMatroid n independent → IsMatroid n (family k n independent)
  pub is_meant : (k : K) (n : ℕ) (independent : ℕ → Bool) → IsMatroid n independent → (s : ℕ) → (family k n independent s ≡ true) ↔ means k n independent s

-- ---- what is claimed

abbrev pub TruncationIs : Type 0
TruncationIs = (n : ℕ) (independent : ℕ → Bool) (k : ℕ) → IsMatroid n independent → IsMatroid n (truncated independent k)

abbrev pub DualIs : Type 0
DualIs = (n : ℕ) (independent : ℕ → Bool) → IsMatroid n independent → IsMatroid n (dual n independent)

-- the test tells the sets outside which there is a base
abbrev pub DualMeans : Type 0
DualMeans = (n : ℕ) (independent : ℕ → Bool) → IsMatroid n independent → (s : ℕ) → (dual n independent s ≡ true) ↔ BaseOutside n independent s

-- the bases of the dual are the complements of the bases below
abbrev pub DualBases : Type 0
DualBases = (n : ℕ) (independent : ℕ → Bool) → IsMatroid n independent → (b : ℕ)
    → Base n (dual n independent) b ↔ ((b < 2 ^ n) × Base n independent (complement n b))

-- the dual of the dual is the matroid itself
abbrev pub DualTwice : Type 0
DualTwice = (n : ℕ) (independent : ℕ → Bool) → IsMatroid n independent → (s : ℕ) → dual n (dual n independent) s ≡ independent s

-- of any two sets
abbrev pub PinnedIs : Type 0
PinnedIs = (n : ℕ) (independent : ℕ → Bool) (kept removed : ℕ) → IsMatroid n independent → IsMatroid n (pinned independent kept removed)

-- what greed keeps of ins is independent, so the empty set is no case of its own
abbrev pub MinorMeans : Type 0
MinorMeans = (n : ℕ) (independent : ℕ → Bool) (ins outs : ℕ) → IsMatroid n independent → (s : ℕ)
    → pinned independent (greedy n independent ins) (bit_or ins outs) s ≡ minor n independent ins outs s
