-- The word of one label.
use Rattle.std.specs.Prelude.{ℕ, cond, ◌&&◌, nat_le}
use Rattle.labels.specs.Sets.{single}

-- the label e alone, where a word of 64 bits can hold it; no label otherwise
abbrev pub word_of : ℕ → ℕ
word_of e = cond (nat_le 1 e && nat_le e 64) (single e) 0
