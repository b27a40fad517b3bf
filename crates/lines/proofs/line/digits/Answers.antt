use Rattle.std.proofs.Common.{sym, arith}
use Rattle.itoa.proofs.Decimal.{length_one}
use Rattle.lines.proofs.Digits.{one_more}
use Rattle.lines.proofs.line.digits.Goals as goal

pub returns-in-Some : goal.returns-in-Some
returns-in-Some c = one_more c.in-Some.tens c.args.count c.in-Some.ensures.power_le c.in-Some.ensures.next_power_gt c.ranges.count.fits

pub returns-in-None : goal.returns-in-None
returns-in-None c = sym (length_one c.args.count (omega (arith, c.in-None.ensures.none)))
