use Rattle.std.proofs.Common.{◌+◌, arith}
use Rattle.timed.specs.Timed.{shifts_to}
use Rattle.timed.proofs.Table.{shift_more, shift_put}
use Rattle.timed.proofs.shifts.Goals as goal

pub loop-before-init : goal.loop-before-init
unfolding shifts_to
loop-before-init c = c.new-shifts.ensures

pub loop-before-preserved : goal.loop-before-preserved
loop-before-preserved c =
    shift_more _ _ _ _ c.loop-before.before (c.loop-before.before + 1) c.loop-before.invariant c.loop-before-test.true (omega arith)
    (shift_put (c.loop-before.before + 1) (omega arith)) c.add.ensures.cases
