use Rattle.std.proofs.Common.{◌≤◌, drop, length}
use Rattle.outlet.specs.Sending.{Holding}
use Rattle.outlet.proofs.send.Given as goal

abbrev pub invariant-loop-at : goal.invariant-loop-at
invariant-loop-at g l = Holding (g.W.Write.contents l.fn.out) (g.W.Write.contents l.out) (drop l.at l.bytes) l.bytes
    × (l.at ≤ length l.bytes)

abbrev pub decreases-loop-at : goal.decreases-loop-at
decreases-loop-at g l = l.tries
