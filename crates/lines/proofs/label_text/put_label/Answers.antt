use Rattle.std.proofs.Common.{take, suc, ap, ◌∙◌, arith}
use Rattle.itoa.proofs.Decimal.{length_one, length_two}
use Rattle.lines.specs.Text.{label_text}
use Rattle.lines.proofs.Texts.{put_row, row_text}
use Rattle.lines.proofs.label_text.put_label.Goals as goal

pub returns-then-label-lt10-clause-text : goal.returns-then-label-lt10-clause-text
returns-then-label-lt10-clause-text c =
    let e = c.args.label in let short = ap suc (length_one e c.if-label-lt10.true) in let row = c.copy_from_slice.new.self in
    put_row c.args.at _ 2 c.args.out.now row (label_text e)
    (ap (take 2) c.copy_from_slice.ensures.after ∙ row_text 2 e c.texts.result.now c.texts.ensures c.requires.0 c.requires.1 short (omega arith))
    short (omega arith)

pub returns-else-label-lt10-clause-text : goal.returns-else-label-lt10-clause-text
returns-else-label-lt10-clause-text c =
    let e = c.args.label in let long = ap suc (length_two e c.if-label-lt10.false (omega arith)) in let row = c.copy_from_slice.new.self in
    put_row c.args.at _ 3 c.args.out.now row (label_text e)
    (ap (take 3) c.copy_from_slice.ensures.after ∙ row_text 3 e c.texts.result.now c.texts.ensures c.requires.0 c.requires.1 long (omega arith))
    long (omega arith)
