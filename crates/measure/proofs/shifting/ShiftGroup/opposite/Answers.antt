use Rattle.std.proofs.Common.{◌≡◌, ◌-◌, ◌%◌, ◌^◌, ◌<◌, ℤ, neg_ℤ, ap, ◌∙◌, w64, SFits, to_z, of_z}
use lib.Signed.{mag}
use Rattle.std.specs.Int.{int_wrap}
use Rattle.std.proofs.lemmas.Int.{wrapping_neg_is, to_z-of_z, SFits-int_wrap}
use Rattle.measure.specs.Shifts.{shift_opposite}
use Rattle.measure.specs.Group.{same_shift}
use Rattle.measure.proofs.shifting.ShiftGroup.opposite.Goals as goal

-- `a` goes to `wrapping_neg` by its bits, and so comes back from them
negated : (a r : ℤ) → mag a < 2 ^ 63 → r ≡ to_z w64 ((2 ^ 64 - of_z w64 (to_z w64 (of_z w64 a))) % 2 ^ 64) → to_z w64 (of_z w64 r) ≡ int_wrap w64 (neg_ℤ a)
negated a r f e =
    let fits : SFits w64 a = record { sfits = f } in
    let told : r ≡ int_wrap w64 (neg_ℤ a) = e ∙ ap (λ z. to_z w64 ((2 ^ 64 - of_z w64 z) % 2 ^ 64)) (to_z-of_z w64 a fits) ∙ wrapping_neg_is w64 a fits in
    ap (λ z. to_z w64 (of_z w64 z)) told ∙ to_z-of_z w64 (int_wrap w64 (neg_ℤ a)) (SFits-int_wrap w64 (neg_ℤ a))

pub returns : goal.returns
returns c =
    let a = c.args.self in
    same_shift _ (shift_opposite a) (negated a.across _ a.wide c.wrapping_neg.ensures) (negated a.along _ a.long c.wrapping_neg-2.ensures)
