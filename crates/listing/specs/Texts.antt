-- The text that is printed, as bytes.
use Rattle.std.specs.Prelude.{ℕ, suc, List, [], ◌∷◌, ◌++◌, codes, length}
use Rattle.lines.specs.Text.{line_text, refused_text, total_text}
use Rattle.measure.specs.declared.value.Shift.{Shift}
use Rattle.survey_laws.specs.Check.{Wrong, wrong_number}
use Rattle.walk_laws.specs.Settings.{Setting, total_of}

-- a line for each of the sets, numbered from the first number on
abbrev pub lines_text : ℕ → List ℕ → List ℕ
lines_text first [] = []
lines_text first (s ∷ ss) = (line_text first s ++ codes "\n") ++ lines_text (suc first) ss

-- the last line: how many there are, and how far across and along
abbrev pub total_line : ℕ → Shift → List ℕ
total_line count total = total_text count total.across total.along ++ codes "\n"

-- a line for each of the sets, numbered from 1, and then the total: how many they are, and the sum of their values
abbrev pub list_text : {R : Type 0} → Setting R Shift → List ℕ → List ℕ
list_text w sets = lines_text 1 sets ++ total_line (length sets) (total_of w sets)

-- the number of what is wrong, and its row
abbrev pub refused_line : Wrong → ℕ → List ℕ
refused_line w row = refused_text (wrong_number w) row ++ codes "\n"
