use Rattle.std.proofs.Common.{cond, ◌==◌, not, sym, ap, ◌∙◌, arith}
use Rattle.labels.specs.Sets.{has}
use Rattle.answers.specs.Table.{known, known_in}
use Rattle.answers.specs.declared.row.Row.{Row}
use Rattle.answers.proofs.Places.{label_low, noted_is, where_labels}
use Rattle.answers.proofs.table.Answers.note.Goals as goal

pub returns-then-has_row-2 : goal.returns-then-has_row-2
returns-then-has_row-2 c =
    let t = c.args.self.now in let a = c.args.inside in let b = c.args.outside in
    let p = label_low a _ c.has_row.ensures c.if-has_row.true in
    ap known_in c.put.ensures
    ∙ noted_is t.rows a c.noted.result p.0 (omega (arith, p.1, t.whole)) b c.args.answer
    (λ y. c.noted.ensures.yes y ∙ ap (λ (r : Row). cond (y == b) c.args.answer (has r.yes y)) c.row.ensures)
    (λ y. c.noted.ensures.no y ∙ ap (λ (r : Row). cond (y == b) (not c.args.answer) (has r.no y)) c.row.ensures)
    ∙ where_labels a b _ (known t) (sym c.has_row.ensures ∙ c.if-has_row.true) (sym c.has_row-then-has_row.ensures ∙ c.if-has_row-2.true)

pub put-requires : goal.put-requires
put-requires c = label_low c.args.inside _ c.has_row.ensures c.if-has_row.true
