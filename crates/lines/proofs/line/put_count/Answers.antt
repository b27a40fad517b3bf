use Rattle.std.proofs.Common.{rules, ◌+◌, decimal, arith}
use Rattle.lines.proofs.Digits.{at_most}
use Rattle.lines.proofs.Texts.{put_digits}
use Rattle.lines.proofs.line.put_count.Goals as goal

pub overflow_add-end : goal.overflow_add-end
overflow_add-end c = let few = at_most c.args.count c.ranges.count.fits in search rules

pub write_digits-requires : goal.write_digits-requires
write_digits-requires c = let few = at_most c.args.count c.ranges.count.fits in (omega arith, omega arith)

pub returns-clause-text : goal.returns-clause-text
returns-clause-text c =
    let few = at_most c.args.count c.ranges.count.fits in
    let w = c.write_digits in
    put_digits c.args.at (c.args.at + c.digits.result) w.result c.args.out.now w.new.buf (decimal c.args.count) w.ensures.start (omega arith) (omega arith) w.ensures.written w.ensures.before

pub returns-clause-within : goal.returns-clause-within
returns-clause-within c = let few = at_most c.args.count c.ranges.count.fits in omega arith
