-- Elimination: a table has at most one pivot for each place, and words are reduced by it from the highest place down.
use Rattle.std.specs.Prelude.{◌≡◌, ℕ, zero, suc, ◌<◌, true, false, cond, ◌⊎◌, List, length, bit_xor, slice_index, slice_index_or, slice_set}
use Rattle.labels.specs.Sets.{has}

-- the places of a word, and so the most that a table can have
abbrev pub places : ℕ
places = 64

-- the pivot of the place k (from 1) in a table
unfoldable pub pivot : List ℕ → ℕ → ℕ
pivot ps zero = 0
pivot ps (suc k) = slice_index ps k

-- k is the highest place of x
pub record Leading (x k : ℕ) : Type 0 where
  pub on : has x k ≡ true
  pub above : (j : ℕ) → k < j → has x j ≡ false

-- the pivot of each place is 0, or that is its highest place
abbrev pub Echelon : (ℕ → ℕ) → Type 0
Echelon p = (k : ℕ) → (p k ≡ 0) ⊎ Leading (p k) k

-- x without the place k, where k has a pivot
abbrev pub cancelled : (ℕ → ℕ) → ℕ → ℕ → ℕ
cancelled p k x = cond (has x k) (bit_xor x (p k)) x

-- for the places from k down to 1
unfoldable pub reduced : (ℕ → ℕ) → ℕ → ℕ → ℕ
reduced p zero x = x
reduced p (suc k) x = reduced p k (cancelled p (suc k) x)

-- the word w is a sum of pivots of the table ps
abbrev pub Vanishes : List ℕ → ℕ → Type 0
Vanishes ps w = reduced (pivot ps) places w ≡ 0

-- the table qs is ps and one pivot more: what is left of the word w, at its highest place, which had none
pub record Grown (ps : List ℕ) (w : ℕ) (qs : List ℕ) : Type 0 where
  pub left : ℕ
  pub index : ℕ
  pub low : index < length ps
  pub same : reduced (pivot ps) places left ≡ reduced (pivot ps) places w
  pub leads : Leading left (suc index)
  pub vacant : slice_index_or ps index 0 ≡ 0
  pub stored : qs ≡ slice_set ps index left
