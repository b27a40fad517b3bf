use Rattle.std.proofs.Common.{◌≡◌, map, take}
use Rattle.measure.specs.Shifts.{entries_of}
use Rattle.survey.specs.View.{rows_of}
use Rattle.survey_walk.specs.Rigs.{row_shift}
use Rattle.survey_walk.proofs.rig.shifts_of.Given as goal

abbrev pub invariant-loop-row : goal.invariant-loop-row
invariant-loop-row l = entries_of l.shifts ≡ map row_shift (take l.row-index (rows_of l.survey))
