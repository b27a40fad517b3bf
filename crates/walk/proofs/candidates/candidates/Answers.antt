use Rattle.std.proofs.Common.{rules, ◌≡◌, ℕ, ◌<◌, ◌≤◌, sym, ap, ◌∙◌, subst, bit_and}
use lib.Bits.{bit_xor}
use Rattle.labels.specs.Sets.{has, single, swap}
use Rattle.answers.specs.declared.row.Row.{Row}
use Rattle.answers.specs.Table.{known}
use Rattle.answers.proofs.Columns.{gathered_more, gathered_all, left_is, next_is, not_yet}
use Rattle.walk.proofs.Known.{Beside, Tells, beside_in, beside_out, column_tells, found_more, found_same, in_word, known_first, partners_are, row_tells, swap_as, swap_back, unknown}
use Rattle.walk.proofs.candidates.candidates.Goals.{then-came, else-came, then-came-2, else-came-2, then-came-3, else-came-3}
use Rattle.walk.proofs.candidates.candidates.Goals as goal

pub loop-other-init : goal.loop-other-init
loop-other-init g c =
    let f = g.P.Matroid.independent c.args.matroid.now in let t = c.args.present in let e = c.args.label in let r = c.requires.label in
    let others = bit_and c.if-came.side c.full_to.result in let row = c.if-came-2.known in
    let fits : t < 18446744073709551616 = search rules in
    let side : Beside t e others = elim c.if-came.branch [
      | then-came w ↦ subst (λ (s : ℕ). Beside t e (bit_and s c.full_to.result)) (sym w.side-is) (beside_out t e c.full_to.result (sym c.contains-came.ensures ∙ w.if-came.true) r.1 c.full_to.ensures)
      | else-came w ↦ subst (λ (s : ℕ). Beside t e (bit_and s c.full_to.result)) (sym w.side-is) (beside_in t e c.full_to.result (sym c.contains-came.ensures ∙ w.if-came.false) fits r.1 c.full_to.ensures)
    ] in
    let tells : Tells f t e others row.yes row.no = elim c.if-came-2.branch [
      | then-came-2 w ↦ subst (λ (k : Row). Tells f t e others k.yes k.no) (sym w.known-is)
          (column_tells f t e others (known c.args.answers.now) r.0 side c.requires.known (sym c.contains-came.ensures ∙ w.if-came-2.true) _ _ w.column-known.ensures.yes w.column-known.ensures.no)
      | else-came-2 w ↦ subst (λ (k : Row). Tells f t e others k.yes k.no) (sym w.known-is)
          (row_tells f t e others (known c.args.answers.now) r.0 side c.requires.known (sym c.contains-came.ensures ∙ w.if-came-2.false) _ _
          (λ a. ap (λ (k : Row). has k.yes a) w.row-known.ensures) (λ a. ap (λ (k : Row). has k.no a) w.row-known.ensures))
    ] in
    let fit : others < 18446744073709551616 = search rules in
    let y : row.yes < 18446744073709551616 = search rules in
    let n : row.no < 18446744073709551616 = search rules in (
      unknown f t e others row.yes row.no tells fit y n,
      c.into_iter-other-iterator.ensures.into_iter_gives ∙ c.labels_of-other-items.ensures,
      known_first f t e others row.yes row.no tells fit y n,
      c.requires.known,
    )

pub ask-requires : goal.ask-requires
ask-requires g c =
    let o = c.in-Some.other in let r = c.requires.label in let inv = c.loop-other.invariant in
    let b = in_word _ o inv.2.fits (next_is _ _ inv.0 _ inv.2 o c.next.new.self (sym c.in-Some.ensures.steps ∙ inv.1)) in
    let inside : (1 ≤ c.if-came-3.inside.0) × (c.if-came-3.inside.0 ≤ 64) = elim c.if-came-3.branch [
      | then-came-3 w ↦ subst (λ (p : ℕ × ℕ). (1 ≤ p.0) × (p.0 ≤ 64)) (sym w.inside-is) b
      | else-came-3 w ↦ subst (λ (p : ℕ × ℕ). (1 ≤ p.0) × (p.0 ≤ 64)) (sym w.inside-is) r
    ] in
    let outside : (1 ≤ c.if-came-3.inside.1) × (c.if-came-3.inside.1 ≤ 64) = elim c.if-came-3.branch [
      | then-came-3 w ↦ subst (λ (p : ℕ × ℕ). (1 ≤ p.1) × (p.1 ≤ 64)) (sym w.inside-is) r
      | else-came-3 w ↦ subst (λ (p : ℕ × ℕ). (1 ≤ p.1) × (p.1 ≤ 64)) (sym w.inside-is) b
    ] in
    record { known = inv.3; inside = inside; outside = outside }

pub loop-other-preserved-then-ask : goal.loop-other-preserved-then-ask
loop-other-preserved-then-ask g c =
    let f = g.P.Matroid.independent c.args.matroid.now in let t = c.args.present in let e = c.args.label in let o = c.in-Some.other in
    let inv = c.loop-other.invariant in let here = sym c.in-Some.ensures.steps ∙ inv.1 in
    let b = in_word _ o inv.2.fits (next_is _ _ inv.0 _ inv.2 o c.next.new.self here) in
    let same : swap t c.if-came-3.inside.0 c.if-came-3.inside.1 ≡ swap t e o = elim c.if-came-3.branch [
      | then-came-3 w ↦ swap_back t e o _ c.requires.label.0 b.0 w.inside-is
      | else-came-3 w ↦ swap_as t e o _ w.inside-is
    ] in (
      bit_xor inv.0 (single o),
      left_is _ _ inv.0 _ inv.2 o c.next.new.self here,
      gathered_more _ _ inv.0 _ inv.2 o c.next.new.self here _
          (λ a. found_more c.loop-other.found _ o a _ b.0 b.1 c.inserted-found.ensures (sym c.if-ask.true ∙ c.ask.ensures.answer ∙ ap f same)),
      c.ask.ensures.known,
    )

pub loop-other-preserved : goal.loop-other-preserved
loop-other-preserved g c =
    let f = g.P.Matroid.independent c.args.matroid.now in let t = c.args.present in let e = c.args.label in let o = c.in-Some.other in
    let inv = c.loop-other.invariant in let here = sym c.in-Some.ensures.steps ∙ inv.1 in
    let b = in_word _ o inv.2.fits (next_is _ _ inv.0 _ inv.2 o c.next.new.self here) in
    let same : swap t c.if-came-3.inside.0 c.if-came-3.inside.1 ≡ swap t e o = elim c.if-came-3.branch [
      | then-came-3 w ↦ swap_back t e o _ c.requires.label.0 b.0 w.inside-is
      | else-came-3 w ↦ swap_as t e o _ w.inside-is
    ] in (
      bit_xor inv.0 (single o),
      left_is _ _ inv.0 _ inv.2 o c.next.new.self here,
      gathered_more _ _ inv.0 _ inv.2 o c.next.new.self here _
          (λ a. found_same c.loop-other.found o a _ (not_yet _ _ inv.0 _ inv.2 o c.next.new.self here) (sym c.if-ask.false ∙ c.ask.ensures.answer ∙ ap f same)),
      c.ask.ensures.known,
    )

pub returns-clause-found : goal.returns-clause-found
returns-clause-found g c =
    let f = g.P.Matroid.independent c.args.matroid.now in let t = c.args.present in let e = c.args.label in let r = c.requires.label in
    let fits : t < 18446744073709551616 = search rules in
    let side : Beside t e (bit_and c.if-came.side c.full_to.result) = elim c.if-came.branch [
      | then-came w ↦ subst (λ (s : ℕ). Beside t e (bit_and s c.full_to.result)) (sym w.side-is) (beside_out t e c.full_to.result (sym c.contains-came.ensures ∙ w.if-came.true) r.1 c.full_to.ensures)
      | else-came w ↦ subst (λ (s : ℕ). Beside t e (bit_and s c.full_to.result)) (sym w.side-is) (beside_in t e c.full_to.result (sym c.contains-came.ensures ∙ w.if-came.false) fits r.1 c.full_to.ensures)
    ] in
    partners_are f t e _ c.loop-other.found side (gathered_all _ _ c.loop-other.invariant.0 _ c.loop-other.invariant.2 (sym c.in-None.ensures.steps.0 ∙ c.loop-other.invariant.1))
