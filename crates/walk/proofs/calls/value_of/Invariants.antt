use Rattle.std.proofs.Common.{◌≡◌}
use Rattle.std.specs.List.{fold}
use Rattle.walk_laws.specs.Settings.{summed}
use Rattle.walk.proofs.Turns.{gained}
use Rattle.walk.proofs.calls.value_of.Given as goal

-- what the labels still to come will make of the value
abbrev pub invariant-loop-label : goal.invariant-loop-label
invariant-loop-label g l =
    let m = g.M.Measure in summed m.zero m.sum (m.worth l.measure) l.set l.n ≡ fold (gained m.sum (m.worth l.measure)) l.value l.label-iterator
