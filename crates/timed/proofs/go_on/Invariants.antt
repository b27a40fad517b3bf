use Rattle.std.proofs.Common.{◌-◌, ◌≤◌}
use Rattle.measure.specs.Shifts.{entries_of}
use Rattle.walk.specs.States.{Keeps, state_of}
use Rattle.timed.specs.Timed.{walk_over}
use Rattle.timed.proofs.Turns.{SoFar}
use Rattle.timed.proofs.go_on.Given as goal

abbrev pub invariant-loop : goal.invariant-loop
invariant-loop g l =
    let first = l.fn.walk in
    let w = walk_over (g.P.Matroid.size first.matroid) (g.P.Matroid.independent first.matroid) (entries_of first.measure) in
    Keeps first l.walk × (l.counter - 1 ≤ l.most - 1) × SoFar w (state_of first) first.view.present (l.counter - 1) (state_of l.walk) l.digest
