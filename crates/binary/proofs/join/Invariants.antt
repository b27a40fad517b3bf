use Rattle.binary.proofs.Steps.{Reducing}
use Rattle.binary.proofs.join.Given as goal

abbrev pub invariant-loop-left : goal.invariant-loop-left
invariant-loop-left g l = Reducing l.initial.pivots l.pivots l.word l.left

abbrev pub decreases-loop-left : goal.decreases-loop-left
decreases-loop-left g l = l.left
