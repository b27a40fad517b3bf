use Rattle.std.proofs.Common.{ℕ, ◌^◌, ◌<◌, sym, refl, subst, arith}
use Rattle.std.proofs.lemmas.Bool.{true≢false}
use Rattle.binary.proofs.Steps.{at_end, inside, vacant, occupied, grows, falls, goes_on}
use Rattle.binary.proofs.join.Goals as goal

pub bounds-pivots-index : goal.bounds-pivots-index
bounds-pivots-index g c = inside _ _ _ _ c.requires.table c.loop-left.invariant _ c.highest_place-index.ensures _ c.requires.low

pub bounds-pivots-index-then-held-index-eq0 : goal.bounds-pivots-index-then-held-index-eq0
bounds-pivots-index-then-held-index-eq0 g c = inside _ _ _ _ c.requires.table c.loop-left.invariant _ c.highest_place-index.ensures _ c.requires.low

pub overflow_shr-held : goal.overflow_shr-held
overflow_shr-held g c = inside _ _ _ _ c.requires.table c.loop-left.invariant _ c.highest_place-index.ensures _ c.ranges.word.fits

pub returns-then-held-index-eq0 : goal.returns-then-held-index-eq0
returns-then-held-index-eq0 g c =
    let low = subst (λ (n : ℕ). c.args.word < 2 ^ n) (sym c.told-pivots) c.requires.low in record {
      grown = λ _. grows _ _ _ _ c.requires.table c.loop-left.invariant _ c.highest_place-index.ensures low (vacant _ _ _ _ c.requires.table c.loop-left.invariant _ c.highest_place-index.ensures c.if-held-index-eq0.true);
      vanished = λ z. absurd (true≢false z);
    }

pub loop-left-init : goal.loop-left-init
loop-left-init g c = record { unchanged = refl; falling = omega arith; same = refl }

pub loop-left-smaller : goal.loop-left-smaller
loop-left-smaller g c = falls _ _ _ _ c.requires.table c.loop-left.invariant _ c.highest_place-index.ensures (occupied _ _ _ _ c.requires.table c.loop-left.invariant _ c.highest_place-index.ensures c.if-held-index-eq0.false)

pub loop-left-preserved : goal.loop-left-preserved
loop-left-preserved g c = goes_on _ _ _ _ c.requires.table c.loop-left.invariant _ c.highest_place-index.ensures c.ranges.word.fits (occupied _ _ _ _ c.requires.table c.loop-left.invariant _ c.highest_place-index.ensures c.if-held-index-eq0.false)

pub returns : goal.returns
returns g c = record { grown = λ z. absurd (true≢false (sym z)); vanished = λ _. at_end _ _ _ _ c.requires.table c.loop-left.invariant c.loop-left-test.false }
