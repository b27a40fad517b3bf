use Rattle.binary.proofs.Steps.{ScannedTo}
use Rattle.binary.proofs.is_independent.Given as goal

abbrev pub invariant-loop-label : goal.invariant-loop-label
invariant-loop-label g l = ScannedTo (g.M.BinaryMatrix.width l.matrix) (g.M.BinaryMatrix.column l.matrix) l.set l.label-iterator l.pivots
