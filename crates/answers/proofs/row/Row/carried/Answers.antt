use Rattle.std.proofs.Common.{rules, ◌<◌, ◌==◌, Bool, cond, ap, ◌∙◌, ap₂}
use Rattle.answers.proofs.Rows.{all_or_none, carried_bits, stays_bits}
use Rattle.answers.proofs.row.Row.carried.Goals as goal

pub returns-clause-yes : goal.returns-clause-yes
returns-clause-yes c = λ b.
    let s = c.args.self in let gone = c.args.gone in
    let y : s.yes < 18446744073709551616 = search rules in let n : s.no < 18446744073709551616 = search rules in
    c.with.ensures b
    ∙ ap₂ (λ (v w : Bool). cond (b == c.args.leaving) v w) c.contains-yes.ensures
    (carried_bits s.yes s.no gone.yes gone.no _ _ b _ _ y n (c.all.ensures ∙ ap all_or_none c.contains-no.ensures) (c.all-2.ensures ∙ ap all_or_none c.contains-yes.ensures))

pub returns-clause-no : goal.returns-clause-no
returns-clause-no c = λ b.
    let s = c.args.self in let gone = c.args.gone in let n : s.no < 18446744073709551616 = search rules in
    c.with-2.ensures b
    ∙ ap₂ (λ (v w : Bool). cond (b == c.args.leaving) v w) c.contains-no.ensures
    (stays_bits s.no gone.no _ b _ n (c.all.ensures ∙ ap all_or_none c.contains-no.ensures))
