-- The lines that are printed, as the bytes of their text, without the line feed at the end.
use Rattle.std.specs.Prelude.{ℕ, zero, suc, cond, List, [], ◌∷◌, ◌++◌, ℤ, codes, decimal, take}
use Rattle.std.specs.Fmt.{signed_decimal}
use Rattle.labels.specs.Sets.{has}
use Rattle.lines.specs.declared.label_text.TheConstants.{LABEL_ROOM}

-- a label, after a space
abbrev pub label_text : ℕ → List ℕ
label_text e = codes " " ++ decimal e

-- the same, with spaces as far as its room goes
abbrev pub padded : ℕ → List ℕ
padded e = take LABEL_ROOM (label_text e ++ codes "  ")

-- so many labels, from the first on
abbrev pub padded_from : ℕ → ℕ → List (List ℕ)
padded_from first zero = []
padded_from first (suc n) = padded first ∷ padded_from (suc first) n

-- those labels of 1..n that are in s, upwards, each after a space
unfoldable pub labels_text : ℕ → ℕ → List ℕ
labels_text s zero = []
labels_text s (suc n) = labels_text s n ++ cond (has s (suc n)) (label_text (suc n)) []

-- a count, then the labels of a set, of which a word has 64
abbrev pub line_text : ℕ → ℕ → List ℕ
line_text count s = decimal count ++ labels_text s 64

-- a count, and how far across and along
abbrev pub total_text : ℕ → ℤ → ℤ → List ℕ
total_text count across along = codes "total " ++ (decimal count ++ (codes " " ++ (signed_decimal across ++ (codes " " ++ signed_decimal along))))

-- the number of a refusal, and the row that it is about
abbrev pub refused_text : ℕ → ℕ → List ℕ
refused_text number row = codes "refused " ++ (decimal number ++ (codes " row " ++ decimal row))
