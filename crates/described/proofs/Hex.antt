-- The digits of bytes.
use Rattle.std.proofs.Common.{◌≡◌, ℕ, ◌+◌, ◌/◌, ◌%◌, ◌<◌, false, List, [], ◌∷◌, ◌++◌, length, get_or, take, ap, sym, ◌∙◌, add-one}
use Rattle.std.proofs.Math.Seq.{take-suc}
use Rattle.std.proofs.lemmas.Grind.{flat_map-append}
use Rattle.std.specs.Fmt.{digit_glyph}
use Rattle.described.specs.Files.{hex_text, written_text}

abbrev pub two_digits : ℕ → List ℕ
two_digits b = digit_glyph false (b / 16) ∷ digit_glyph false (b % 16) ∷ []

-- the digits of one byte more
pub hex_more : (xs : List ℕ) (i : ℕ) → i < length xs → written_text (take i xs) ++ two_digits (get_or xs i 0) ≡ written_text (take (i + 1) xs)
hex_more xs i h =
    let more : hex_text (take (i + 1) xs) ≡ hex_text (take i xs) ++ two_digits (get_or xs i 0) =
    rw add-one (ap hex_text (take-suc xs i 0 h) ∙ flat_map-append two_digits (take i xs) (get_or xs i 0 ∷ [])) in
    ap (λ (q : List ℕ). written_text [] ++ q) (sym more)
