-- The graph of a survey and the shifts of its edges.
use Rattle.std.specs.Prelude.{ℕ, List, map}
use Rattle.measure.specs.declared.value.Shift.{Shift}
use Rattle.measure.specs.Shifts.{shift_of}
use Rattle.survey_laws.specs.Sheets.{SurveyRow, Sheet}

abbrev pub row_ends : SurveyRow → ℕ × ℕ
row_ends r = (r.a, r.b)

abbrev pub row_shift : SurveyRow → Shift
row_shift r = shift_of r.across r.along

-- row e of the survey is the edge with the label e
abbrev pub edges_of : Sheet → List (ℕ × ℕ)
edges_of s = map row_ends s.rows

abbrev pub shifts_for : Sheet → List Shift
shifts_for s = map row_shift s.rows
