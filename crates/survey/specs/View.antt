-- The code's values as the records and outcomes of the theory.
use Rattle.std.specs.Prelude.{ℕ, List, map, Ok, Err, Result}
use Rattle.survey_laws.specs.Sheets.{SurveyRow, Sheet}
use Rattle.survey_laws.specs.Check.{Wrong, too_many_rows, wrong_form, out_of_range, same_point, repeated_pair, Outcome, accepted, refused}
use Rattle.survey.specs.declared.values.Row.{Row}
use Rattle.survey.specs.declared.values.Fault.{Fault}
use Rattle.survey.specs.declared.values.Fault.TheVariants.{TooManyRows, WrongForm, OutOfRange, SamePoint, RepeatedPair}
use Rattle.survey.specs.declared.values.Refusal.{Refusal}
use Rattle.survey.specs.declared.fields.Fields.{Fields}
use Rattle.survey.specs.declared.table.Survey.{Survey}

-- a row of the code
abbrev pub row_of : Row → SurveyRow
row_of r = record { a = r.a; b = r.b; across = r.across; along = r.along }

-- a row before its range is known
abbrev pub fields_of : Fields → SurveyRow
fields_of f = record { a = f.a; b = f.b; across = f.across; along = f.along }

-- the rows that are kept
abbrev pub rows_of : Survey → List SurveyRow
rows_of s = map row_of s.rows.items

-- a survey of the code
abbrev pub sheet_of : Survey → Sheet
sheet_of s = record { points = s.points; rows = rows_of s }

-- a fault of the code
abbrev pub wrong_of : Fault → Wrong
wrong_of TooManyRows = too_many_rows
wrong_of WrongForm = wrong_form
wrong_of OutOfRange = out_of_range
wrong_of SamePoint = same_point
wrong_of RepeatedPair = repeated_pair

-- what came of a row
abbrev pub row_outcome : Result Row Fault → Result SurveyRow Wrong
row_outcome (Ok r) = Ok (row_of r)
row_outcome (Err e) = Err (wrong_of e)

-- what came of the first line
abbrev pub points_outcome : Result ℕ Fault → Result ℕ Wrong
points_outcome (Ok p) = Ok p
points_outcome (Err e) = Err (wrong_of e)

-- what came of a text
abbrev pub outcome : Result Survey Refusal → Outcome
outcome (Ok s) = accepted (sheet_of s)
outcome (Err e) = refused (wrong_of e.fault) e.row
