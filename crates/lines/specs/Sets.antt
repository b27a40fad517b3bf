-- The text of a set of labels, as bytes.
use Rattle.std.specs.Prelude.{ℕ, zero, suc, List, codes, decimal, flat_map}
use Rattle.labels.specs.Listed.{labels_in}

-- the labels of a word upwards, with nothing between; `none` where there is none
abbrev pub set_text : ℕ → List ℕ
set_text zero = codes "none"
set_text (suc s) = flat_map decimal (labels_in (suc s) 64)
