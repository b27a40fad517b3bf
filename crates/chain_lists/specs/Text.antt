-- What an unknown kind and a total are printed as, as the bytes of their text.
use Rattle.std.specs.Prelude.{ℕ, List, ◌++◌, codes, decimal}
use Rattle.std.specs.Fmt.{signed_decimal}
use Rattle.chain_lists.specs.declared.Total.{Total}
use Rattle.chain_lists.specs.declared.Total.TheVariants.{Shift, Lamp}

-- that no kind has this number
abbrev pub unknown_kind_text : ℕ → List ℕ
unknown_kind_text number = codes "no kind of record has the number " ++ decimal number

-- how far across and along, or the word of the lamps
abbrev pub total_text : Total → List ℕ
total_text (Shift across along) = codes "shift total " ++ (signed_decimal across ++ (codes " " ++ signed_decimal along))
total_text (Lamp word) = codes "lamp total " ++ decimal word
