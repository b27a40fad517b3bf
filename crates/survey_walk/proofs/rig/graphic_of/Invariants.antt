use Rattle.std.proofs.Common.{◌≡◌, map, take}
use Rattle.graphic.specs.Edges.{graph}
use Rattle.survey.specs.View.{rows_of}
use Rattle.survey_walk.specs.Rigs.{row_ends}
use Rattle.survey_walk.proofs.rig.graphic_of.Given as goal

abbrev pub invariant-loop-row : goal.invariant-loop-row
invariant-loop-row l = (l.graphic.points ≡ l.survey.points) × (graph l.graphic ≡ map row_ends (take l.row-index (rows_of l.survey)))
