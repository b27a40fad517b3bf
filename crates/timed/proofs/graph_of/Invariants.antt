use Rattle.std.proofs.Common.{◌≡◌, ◌++◌, length}
use Rattle.graphic.specs.Edges.{graph}
use Rattle.timed.specs.Timed.{fits, pairs_of}
use Rattle.timed.proofs.graph_of.Given as goal

abbrev pub invariant-loop-left : goal.invariant-loop-left
invariant-loop-left l =
    (l.graphic.points ≡ l.points)
    × (graph l.graphic ++ pairs_of l.left ≡ pairs_of l.ends)
    × (fits l.points 0 (pairs_of l.ends) ≡ fits l.points (length (graph l.graphic)) (pairs_of l.left))

abbrev pub decreases-loop-left : goal.decreases-loop-left
decreases-loop-left l = length l.left
