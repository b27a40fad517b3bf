use Rattle.std.proofs.Common.{ap₂, arith}
use lib.Bits.{bit_xor}
use Rattle.labels.proofs.Words.{shl_is}
use Rattle.graphic.proofs.edge.Edge.new.Goals as goal

pub invariant_of-result-clause-joins : goal.invariant_of-result-clause-joins
invariant_of-result-clause-joins c =
    ap₂ bit_xor (shl_is 64 c.args.a (omega arith) (omega arith)) (shl_is 64 c.args.b (omega arith) (omega arith))
