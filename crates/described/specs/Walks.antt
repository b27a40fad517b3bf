-- All that is printed of a matroid, an offered and an opened set.
use Rattle.std.specs.Prelude.{ℕ, List, ◌++◌, codes, decimal}
use Rattle.std.specs.Fmt.{signed_decimal}
use Rattle.measure.specs.declared.value.Shift.{Shift}
use Rattle.walk_laws.specs.Settings.{Setting}
use Rattle.walk_laws.specs.Steps.{State, several}
use Rattle.described.specs.Files.{file_text, outcome, swaps_of}
use Rattle.described.specs.Texts.{list_text}

abbrev pub rank_text : ℕ → List ℕ
rank_text rank = codes "rank " ++ decimal rank

-- how many sets, how far across and along, and which lamps
abbrev pub total_text : ℕ → Shift → ℕ → List ℕ
total_text count total lamps =
    codes "total " ++ (decimal count ++ (codes " " ++ (signed_decimal total.across ++ (codes " " ++ (signed_decimal total.along ++ (codes " " ++ decimal lamps))))))

-- the lines of the list of the walk that begins in the state s, of the rank, of the totals and of the file; `lamps` is the total of another measure
abbrev pub whole_text : {R : Type 0} → Setting R Shift → State R Shift → ℕ → ℕ → ℕ → ℕ → List ℕ
whole_text w s steps rank lamps room =
    let r = several w steps s in
    list_text w steps s
    ++ ((rank_text rank ++ codes "\n")
    ++ ((total_text r.2.count r.2.total lamps ++ codes "\n")
    ++ (file_text (outcome room w.n s.present (swaps_of r.0)) r.2.total lamps ++ codes "\n")))
