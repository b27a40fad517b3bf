-- The walk that a survey's text opens.
use Rattle.std.specs.Prelude.{◌≡◌, ℕ, List, length}
use Rattle.labels.specs.Sets.{highest_below, full, Subset}
use Rattle.matroid.specs.declared.interface.Matroid.{Ghosts as MatroidOf}
use Rattle.tie_rule.specs.declared.rule.TieRule.{Ghosts as TieRuleOf}
use Rattle.measure.specs.declared.interface.Measure.{Ghosts as MeasureOf}
use Rattle.graphic.specs.declared.graph.Graphic.{Graphic}
use Rattle.graphic.specs.Graphs.{forest}
use Rattle.graphic.specs.Edges.{graph}
use Rattle.tie_rule.specs.declared.closest.Closest.{Closest}
use Rattle.measure.specs.declared.value.Shift.{Shift}
use Rattle.measure.specs.Shifts.{Shifts, shift_zero, shift_sum, shift_opposite, entries_of, entry_at}
use Rattle.walk_laws.specs.Settings.{Setting}
use Rattle.walk_laws.specs.Steps.{begun}
use Rattle.walk_laws.specs.Law.{LawOfLife, SameAsG}
use Rattle.walk.specs.declared.state.Walk.{Walk}
use Rattle.walk.specs.States.{state_of}
use Rattle.survey_laws.specs.Sheets.{Sheet, Lawful}
use Rattle.survey_laws.specs.Laws.{Writes}
use Rattle.survey_walk.specs.Rigs.{edges_of, shifts_for}

-- the bases are the spanning forests of the edges; ties go to the closest label; a label is worth its row's shift
abbrev pub setting_for : List (ℕ × ℕ) → List Shift → Setting Closest Shift
setting_for edges shifts = record {
  n = length edges;
  independent = forest edges;
  choice = λ _ e c. highest_below e c;
  next = λ r _ _. r;
  zero = shift_zero;
  sum = shift_sum;
  opposite = shift_opposite;
  worth = entry_at shifts;
}

-- the rule that keeps no state
abbrev pub closest : Closest
closest = record {}

abbrev pub survey_setting : Sheet → Setting Closest Shift
survey_setting s = setting_for (edges_of s) (shifts_for s)

-- the text writes a lawful survey, and w has just begun over it, from the empty set and with all labels active
pub record Opened {matroids : MatroidOf Graphic} {rules : TieRuleOf Closest} {measures : MeasureOf Shifts Shift}
    (text : List ℕ) (sheet : Sheet) (w : Walk Graphic Closest Shifts Shift matroids rules measures) : Type 0 where
  pub lawful : Lawful sheet
  pub writes : Writes text sheet
  pub points : w.matroid.points ≡ sheet.points
  pub edges : graph w.matroid ≡ edges_of sheet
  pub shifts : entries_of w.measure ≡ shifts_for sheet
  -- all labels are active
  pub open_all : Subset (full (length (edges_of sheet))) (full 64)
  pub begins : state_of w ≡ begun (survey_setting sheet) 0 (full 64) closest
  -- so its whole life is lawful, and it goes as Algorithm G goes
  pub law : LawOfLife (survey_setting sheet) 0 (full 64) closest
  pub algorithm : SameAsG (survey_setting sheet) 0 (full 64) closest
