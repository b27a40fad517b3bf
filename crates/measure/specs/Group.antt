-- Shifts are a group.
use Rattle.std.specs.Prelude.{◌≡◌, ◌^◌, ◌<◌, ℤ, pos, ◌+ℤ◌, neg_ℤ}
use Rattle.std.proofs.Common.{sym, ap, ◌∙◌, lit<}
use mathlib.Core.HLevel.{is_prop→PathP}
use Rattle.std.proofs.Math.Bridge.{le_prop}
use Rattle.std.proofs.Math.IntN.{+ℤ_idr, +ℤ_invr, +ℤ_comm, +ℤ_assoc}
use Rattle.std.specs.Int.Signed.{mag}
use Rattle.std.specs.Int.{int_wrap, w64}
use Rattle.std.proofs.lemmas.Int.{int_wrap_fits, int_wrap-add_left, int_wrap-add_right}
use Rattle.measure.specs.Laws.{GroupLaws}
use Rattle.measure.specs.Shifts.{shift_zero, shift_sum, shift_opposite}
use Rattle.measure.specs.declared.value.Shift.{Shift}

-- two shifts by the same numbers are the same, whatever proofs they hold
pub same_shift : (p q : Shift) → p.across ≡ q.across → p.along ≡ q.along → p ≡ q
same_shift p q a b = λ i. record {
  across = a i;
  along = b i;
  wide = is_prop→PathP (λ j. mag (a j) < 2 ^ 63) (λ j. le_prop) p.wide q.wide i;
  long = is_prop→PathP (λ j. mag (b j) < 2 ^ 63) (λ j. le_prop) p.long q.long i;
}

-- a number that fits is its own
pub itself : (a : ℤ) → mag a < 2 ^ 63 → int_wrap w64 a ≡ a
itself a fits = int_wrap_fits w64 a (record { sfits = fits })

zero_right : (a : ℤ) → mag a < 2 ^ 63 → int_wrap w64 (a +ℤ pos 0) ≡ a
zero_right a fits = ap (int_wrap w64) (+ℤ_idr a) ∙ itself a fits

opposite_right : (a : ℤ) → int_wrap w64 (a +ℤ int_wrap w64 (neg_ℤ a)) ≡ pos 0
opposite_right a = int_wrap-add_right w64 a (neg_ℤ a) ∙ ap (int_wrap w64) (+ℤ_invr a) ∙ itself (pos 0) (lit< tt)

in_order : (a b : ℤ) → int_wrap w64 (a +ℤ b) ≡ int_wrap w64 (b +ℤ a)
in_order a b = ap (int_wrap w64) (+ℤ_comm a b)

regrouped : (a b c : ℤ) → int_wrap w64 (int_wrap w64 (a +ℤ b) +ℤ c) ≡ int_wrap w64 (a +ℤ int_wrap w64 (b +ℤ c))
regrouped a b c = int_wrap-add_left w64 (a +ℤ b) c ∙ ap (int_wrap w64) (+ℤ_assoc a b c) ∙ sym (int_wrap-add_right w64 a (b +ℤ c))

pub shifts_group : GroupLaws shift_zero shift_sum shift_opposite
shifts_group = record {
  assoc = λ a b c. same_shift (shift_sum (shift_sum a b) c) (shift_sum a (shift_sum b c)) (regrouped a.across b.across c.across) (regrouped a.along b.along c.along);
  comm = λ a b. same_shift (shift_sum a b) (shift_sum b a) (in_order a.across b.across) (in_order a.along b.along);
  unit = λ a. same_shift (shift_sum a shift_zero) a (zero_right a.across a.wide) (zero_right a.along a.long);
  inverse = λ a. same_shift (shift_sum a (shift_opposite a)) shift_zero (opposite_right a.across) (opposite_right a.along);
}
