use Rattle.std.proofs.Common.{sym, arith}
use Rattle.partition.specs.Classes.{class_count}
use Rattle.partition.specs.Held.{classes, limits}
use Rattle.partition.proofs.Limits.{over, one_more, found, too_high, low, some_over, none_over, tells_limited, is_over, not_over}
use Rattle.partition.proofs.independence.PartitionMatroid.is_independent.Goals as goal

pub returns-then-set-size-ne0 : goal.returns-then-set-size-ne0
returns-then-set-size-ne0 c =
    let p = c.args.self.now in let s = c.args.set in
    let q = too_high (classes p) (limits p) s c.size.result c.size.ensures c.if-set-size-ne0.true in
    record { is = sym q; limits = tells_limited (classes p) (limits p) s _ (sym q) }

pub returns-then-set-room : goal.returns-then-set-room
returns-then-set-room c =
    let p = c.args.self.now in let s = c.args.set in let i = c.loop-room.room-index in
    let more = is_over (classes p) p.rooms s p.whole p.masked i (omega (arith, p.whole)) _ c.if-set-room.true in
    let q = some_over (classes p) (limits p) s (found (over (classes p) (limits p) s) class_count i (omega (arith, p.whole)) more) in
    record { is = sym q; limits = tells_limited (classes p) (limits p) s _ (sym q) }

pub loop-room-preserved : goal.loop-room-preserved
loop-room-preserved c =
    let p = c.args.self.now in let s = c.args.set in let i = c.loop-room.room-index in
    one_more (over (classes p) (limits p) s) i c.loop-room.invariant (not_over (classes p) p.rooms s p.whole p.masked i (omega (arith, p.whole)) _ c.if-set-room.false)

pub returns : goal.returns
returns c =
    let p = c.args.self.now in let s = c.args.set in
    let inside = low (classes p) s c.size.result c.size.ensures c.if-set-size-ne0.false in
    let q = none_over (classes p) (limits p) s c.loop-room.room-index (omega (arith, c.loop-room-test.false, c.loop-room.auto.room-index-end)) inside c.loop-room.invariant in
    record { is = sym q; limits = tells_limited (classes p) (limits p) s _ (sym q) }
