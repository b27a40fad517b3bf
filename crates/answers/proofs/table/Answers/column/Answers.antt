use Rattle.std.proofs.Common.{ℕ, Bool, cond, ◌==◌, bit_and, sym, ap, ◌∙◌, arith, bit_xor}
use Rattle.labels.specs.Sets.{has, full, limit, single}
use Rattle.labels.specs.Listed.{labels_in}
use Rattle.answers.specs.declared.row.Row.{Row}
use Rattle.answers.proofs.Columns.{gathered_none, gathered_more, gathered_all, looked_at, left_is, in_limit, limited, yes_in_rows, no_in_rows}
use Rattle.answers.proofs.table.Answers.column.Goals as goal

pub loop-inside-init : goal.loop-inside-init
loop-inside-init c =
    let o = bit_and c.args.insides (full limit) in (
      o,
      c.into_iter-inside-iterator.ensures.into_iter_gives ∙ c.labels_of-inside-items.ensures ∙ ap (λ (x : ℕ). labels_in (bit_and c.args.insides x) 64) c.full_to.ensures,
      gathered_none _ o (limited c.args.insides),
      gathered_none _ o (limited c.args.insides),
    )

pub with-requires : goal.with-requires
with-requires c =
    let inv = c.loop-inside.invariant in
    let l = in_limit c.args.insides c.in-Some.inside (looked_at _ _ inv.0 _ inv.2 c.in-Some.inside c.next.new.self (sym c.in-Some.ensures.steps ∙ inv.1)) in
    (l.0, omega (arith, l.1))

pub with-requires-in-loop-inside : goal.with-requires-in-loop-inside
with-requires-in-loop-inside c =
    let inv = c.loop-inside.invariant in
    let l = in_limit c.args.insides c.in-Some.inside (looked_at _ _ inv.0 _ inv.2 c.in-Some.inside c.next.new.self (sym c.in-Some.ensures.steps ∙ inv.1)) in
    (l.0, omega (arith, l.1))

pub loop-inside-preserved : goal.loop-inside-preserved
loop-inside-preserved c =
    let inv = c.loop-inside.invariant in let e = c.in-Some.inside in let here = sym c.in-Some.ensures.steps ∙ inv.1 in (
      bit_xor inv.0 (single e),
      left_is _ _ inv.0 _ inv.2 e c.next.new.self here,
      gathered_more _ _ inv.0 _ inv.2 e c.next.new.self here _
          (λ a. c.with.ensures a ∙ ap (λ (k : Bool). cond (a == e) k (has c.loop-inside.column.yes a)) (c.contains.ensures ∙ ap (λ (r : Row). has r.yes c.args.outside) c.row-row.ensures)),
      gathered_more _ _ inv.0 _ inv.3 e c.next.new.self here _
          (λ a. c.with-in-loop-inside.ensures a ∙ ap (λ (k : Bool). cond (a == e) k (has c.loop-inside.column.no a)) (c.contains-in-loop-inside.ensures ∙ ap (λ (r : Row). has r.no c.args.outside) c.row-row.ensures)),
    )

pub returns-clause-yes : goal.returns-clause-yes
returns-clause-yes c = λ a. gathered_all _ _ c.loop-inside.invariant.0 _ c.loop-inside.invariant.2 (sym c.in-None.ensures.steps.0 ∙ c.loop-inside.invariant.1) a ∙ yes_in_rows c.args.self.now.rows c.args.insides c.args.outside c.args.self.now.whole a

pub returns-clause-no : goal.returns-clause-no
returns-clause-no c = λ a. gathered_all _ _ c.loop-inside.invariant.0 _ c.loop-inside.invariant.3 (sym c.in-None.ensures.steps.0 ∙ c.loop-inside.invariant.1) a ∙ no_in_rows c.args.self.now.rows c.args.insides c.args.outside c.args.self.now.whole a
