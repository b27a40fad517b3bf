use Rattle.std.proofs.Common.{arith, length-drop}
use Rattle.outlet.proofs.Pieces.{sent_from}
use Rattle.outlet.proofs.send.Goals as goal

pub loop-at-preserved-in-Ok : goal.loop-at-preserved-in-Ok
loop-at-preserved-in-Ok g c = (sent_from c.loop-at.at c.in-Ok.n c.loop-at.invariant.0 c.in-Ok.ensures.bytes, omega (arith, c.in-Ok.ensures.bound, c.loop-at.invariant.1, length-drop c.loop-at.at c.args.bytes.now))
