use Rattle.std.proofs.Common.{◌≡◌}
use Rattle.measure.specs.Shifts.{entries_of}
use Rattle.timed.specs.Timed.{shifts_to}
use Rattle.timed.proofs.shifts.Given as goal

abbrev pub invariant-loop-before : goal.invariant-loop-before
invariant-loop-before l = entries_of l.shifts ≡ shifts_to l.before
