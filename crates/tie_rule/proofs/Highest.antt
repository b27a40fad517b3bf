-- The labels of a set below a label, in a word, and the highest of them.
use Rattle.std.proofs.Common.{◌≡◌, ℕ, zero, suc, ◌-◌, ◌^◌, ◌<◌, true, ◌&&◌, ltb, min, sym, ap, ◌∙◌, arith}
use lib.Bits.{bit_and}
use lib.Count.{count_leading_zeros, leading_of_zero}
use Rattle.std.proofs.lemmas.Bool.Decides.{nat_tests}
use Rattle.labels.specs.Sets.{has, full, highest_below}
use Rattle.labels.proofs.Member.{has_none, has_and, has_full, has_above, has_pos}
use Rattle.labels.proofs.Words.{leading_is}
use Rattle.labels.proofs.Passing.{highest_below_none, highest_below_one}

-- `s & full_to(e - 1)`, which a word of 64 bits cuts off
pub masked_below : (e s r : ℕ) → s < 2 ^ 64 → r ≡ full (min (e - 1) 64) → (f : ℕ) → has (bit_and s r) f ≡ (ltb f e && has s f)
masked_below e s r fits is f =
    let p = has_and s r f in
    let q = ap (λ (m : ℕ). has m f) is ∙ has_full (min (e - 1) 64) f in
    let held = has_pos s f in
    let above = has_above 64 s f fits in
    grind (arith, nat_tests)

-- `w - b.leading_zeros()` where b holds the labels of s below e
pub highest_is : (w e s b : ℕ) → b < 2 ^ w → ((f : ℕ) → has b f ≡ (ltb f e && has s f)) → w - count_leading_zeros w b ≡ highest_below e s
highest_is w e s zero l all =
    let p = leading_of_zero w in
    let q = highest_below_none e s (λ f h. let x = all f in let y = has_none f in grind (arith, nat_tests)) in
    omega arith
highest_is w e s (suc b) l all =
    let top = leading_is w (suc b) (omega arith) l in
    let x = all (w - count_leading_zeros w (suc b)) in
    let under : w - count_leading_zeros w (suc b) < e = grind (arith, nat_tests) in
    let member : has s (w - count_leading_zeros w (suc b)) ≡ true = grind (arith, nat_tests) in
    sym (highest_below_one e s (w - count_leading_zeros w (suc b)) under member (λ f g h. let y = all f in let z = top.1 f g in grind (arith, nat_tests)))
