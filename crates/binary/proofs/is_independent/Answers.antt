use Rattle.std.proofs.Common.{ℕ, List, sym, ◌∙◌, subst, arith}
use Rattle.binary.proofs.Steps.{ScannedTo, too_high, low, scan_starts, scan_ends, scan_refuses, scan_goes_on}
use Rattle.binary.proofs.is_independent.Goals as goal

pub returns-then-set-width-ne0 : goal.returns-then-set-width-ne0
returns-then-set-width-ne0 g c = sym (too_high _ _ c.args.set c.width.result c.width.ensures c.if-set-width-ne0.true)

pub loop-label-init : goal.loop-label-init
loop-label-init g c = (c.args.set, c.into_iter-label-iterator.ensures.into_iter_gives ∙ c.labels_of-label-items.ensures, scan_starts _ _ c.args.set _ (omega arith) g.met.M.BinaryMatrix.room)

pub returns-then-not-join : goal.returns-then-not-join
returns-then-not-join g c =
    let m = c.args.matrix.now in let n = g.M.BinaryMatrix.width m in let v = g.M.BinaryMatrix.column m in
    let inside = low n c.args.set c.width.result c.width.ensures c.if-set-width-ne0.false in
    let scanned = subst (λ (left : List ℕ). ScannedTo n v c.args.set left c.loop-label.pivots) c.in-Some.ensures.steps c.loop-label.invariant in
    sym (scan_refuses n v c.args.set _ inside c.in-Some.label c.next.new.self scanned c.column.result c.column.ensures (c.join.ensures.vanished c.if-not-join.true))

pub loop-label-preserved : goal.loop-label-preserved
loop-label-preserved g c =
    let m = c.args.matrix.now in let n = g.M.BinaryMatrix.width m in let v = g.M.BinaryMatrix.column m in
    let inside = low n c.args.set c.width.result c.width.ensures c.if-set-width-ne0.false in
    let scanned = subst (λ (left : List ℕ). ScannedTo n v c.args.set left c.loop-label.pivots) c.in-Some.ensures.steps c.loop-label.invariant in
    scan_goes_on n v c.args.set _ inside c.in-Some.label c.next.new.self scanned c.column.result c.column.ensures c.join.new.pivots (c.join.ensures.grown c.if-not-join.false)

pub returns : goal.returns
returns g c =
    let m = c.args.matrix.now in let n = g.M.BinaryMatrix.width m in let v = g.M.BinaryMatrix.column m in
    sym (scan_ends n v c.args.set c.loop-label.pivots (subst (λ (left : List ℕ). ScannedTo n v c.args.set left c.loop-label.pivots) c.in-None.ensures.steps.0 c.loop-label.invariant))
