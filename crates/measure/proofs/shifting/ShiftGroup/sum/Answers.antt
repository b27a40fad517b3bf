use Rattle.std.proofs.Common.{w64}
use Rattle.std.proofs.lemmas.Int.{wrapping_add_is}
use Rattle.measure.specs.Shifts.{shift_sum}
use Rattle.measure.specs.Group.{same_shift}
use Rattle.measure.proofs.shifting.ShiftGroup.sum.Goals as goal

pub returns : goal.returns
returns c =
    let a = c.args.self in
    let b = c.args.other in
    same_shift _ (shift_sum a b)
    (wrapping_add_is w64 a.across b.across (record { sfits = a.wide }) (record { sfits = b.wide }))
    (wrapping_add_is w64 a.along b.along (record { sfits = a.long }) (record { sfits = b.long }))
