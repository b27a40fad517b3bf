use Rattle.std.proofs.Common.{ℕ, List, sym, ap, ◌∙◌, subst, arith}
use lib.Bits.{bit_or}
use Rattle.label_words.specs.Words.{word_of}
use Rattle.answers.specs.Table.{known, known_in}
use Rattle.answers.specs.declared.row.Row.{Row}
use Rattle.answers.proofs.Places.{label_low, where_labels}
use Rattle.answers.proofs.Turns.{CarryingTo, yes_carried, no_carried, goes_on, ends, others_of, turn}
use Rattle.answers.proofs.table.Answers.carry.Goals as goal

pub put-requires : goal.put-requires
put-requires c =
    let first = c.args.self.now.rows in
    turn first c.row-gone.result c.args.leaving c.args.entering c.args.set c.inserted-two.result c.in-Some.label c.next.new.self c.loop-label.self.rows
    (subst (λ (left : List ℕ). CarryingTo first c.row-gone.result c.args.leaving c.args.entering (others_of c.args.set c.inserted-two.result) left c.loop-label.self.rows) c.in-Some.ensures.steps c.loop-label.invariant)

pub loop-label-preserved : goal.loop-label-preserved
loop-label-preserved c =
    let first = c.args.self.now.rows in let o = others_of c.args.set c.inserted-two.result in
    let C = subst (λ (left : List ℕ). CarryingTo first c.row-gone.result c.args.leaving c.args.entering o left c.loop-label.self.rows) c.in-Some.ensures.steps c.loop-label.invariant in
    let t = turn first c.row-gone.result c.args.leaving c.args.entering c.args.set c.inserted-two.result c.in-Some.label c.next.new.self c.loop-label.self.rows C in
    subst (λ (rows : List Row). CarryingTo first c.row-gone.result c.args.leaving c.args.entering o c.next.new.self rows) (sym c.put.ensures)
    (goes_on first c.row-gone.result c.args.leaving c.args.entering o c.in-Some.label c.next.new.self c.loop-label.self.rows C c.carried.result t.0 (omega (arith, t.1, c.args.self.now.whole))
    (λ b. c.carried.ensures.yes b ∙ ap (λ (r : Row). yes_carried r c.row-gone.result c.args.leaving c.args.entering b) c.row.ensures)
    (λ b. c.carried.ensures.no b ∙ ap (λ (r : Row). no_carried r c.row-gone.result c.args.leaving c.args.entering b) c.row.ensures))

pub returns : goal.returns
returns c =
    let t = c.args.self.now in let l = c.args.leaving in let m = c.args.entering in
    let p = label_low l _ c.has_row.ensures c.if-not-has_row.false in let q = label_low m _ c.has_row-else-not-has_row.ensures c.if-not-has_row-2.false in
    let C = subst (λ (left : List ℕ). CarryingTo t.rows c.row-gone.result l m (others_of c.args.set c.inserted-two.result) left c.loop-label.self.rows) c.in-None.ensures.steps.0 c.loop-label.invariant in
    ap known_in c.put-2.ensures
    ∙ ends c.args.set c.inserted-two.result l m c.ranges.set.fits (c.inserted-two.ensures ∙ ap (λ (x : ℕ). bit_or x (word_of m)) c.inserted.ensures) p.0 p.1 q.0 q.1 t.rows c.loop-label.self.rows c.row-gone.result c.taken_over.result t.whole c.row-gone.ensures C c.taken_over.ensures.yes c.taken_over.ensures.no
    ∙ where_labels l m _ (known t) (sym c.has_row.ensures ∙ c.if-not-has_row.false) (sym c.has_row-else-not-has_row.ensures ∙ c.if-not-has_row-2.false)
