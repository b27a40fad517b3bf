-- The forms of the code's words, at w bits, as the sets that they are.
use Rattle.std.proofs.Common.{◌≡◌, ℕ, zero, suc, ◌+◌, ◌-◌, ◌*◌, ◌/◌, ◌%◌, ◌^◌, ◌<◌, ◌≤◌, true, false, not, ◌&&◌, eqb, ◌⊎◌, sym, refl, ap, ◌∙◌, inl, inr, one-add, arith, pow_pos}
use lib.Bits.{bit_and, and_mask}
use lib.Count.{count_leading_zeros, count_trailing_zeros, under, leading_top}
use Rattle.std.proofs.lemmas.Bool.Decides.{nat_tests}
use Rattle.std.proofs.lemmas.Bool.{cases_Bool}
use Rattle.std.proofs.lemmas.Nat.{one_shl, shr-shr, pow_below}
use Rattle.labels.specs.Sets.{bit, has, single, difference}
use Rattle.labels.proofs.Member.{bit_up, bit_low, bit_not, bit_and_not, has_difference, members}
use Rattle.labels.proofs.Card.{ext, top_is}

-- `1 << (e - 1)`
pub shl_is : (w e : ℕ) → 1 ≤ e → e ≤ w → (1 * 2 ^ (e - 1)) % 2 ^ w ≡ single e
unfolding single
shl_is w e h l = one_shl (e - 1) w (omega arith)

single_pos : (e : ℕ) → 0 < single e
unfolding single
single_pos e = pow_pos (e - 1)

pub single_below : (w e : ℕ) → 1 ≤ e → e ≤ w → single e < 2 ^ w
unfolding single
single_below w e h l = pow_below (e - 1) w (omega arith)

-- `a & !b`
pub and_not_is : (w a b : ℕ) → a < 2 ^ w → b < 2 ^ w → bit_and a ((2 ^ w - 1) - b) ≡ difference a b
unfolding has
and_not_is w a b h l = ext (bit_and a ((2 ^ w - 1) - b)) (difference a b) (λ e. go e ∙ sym (has_difference a b e))
  where
    go : (e : ℕ) → has (bit_and a ((2 ^ w - 1) - b)) e ≡ (has a e && not (has b e))
    go zero = refl
    go (suc k) = bit_and_not w a b k h l

-- `s & (1 << (e - 1)) != 0`
pub mask_tests : (s e : ℕ) → 1 ≤ e → not (eqb (bit_and s (single e)) 0) ≡ has s e
mask_tests s e h = go (cases_Bool (has s e))
  where
    go : (has s e ≡ true) ⊎ (has s e ≡ false) → not (eqb (bit_and s (single e)) 0) ≡ has s e
    go (inl m) =
        let z : bit_and s (single e) ≡ single e = ext _ _ (λ f. grind (arith, members)) in
        let p = single_pos e in grind (arith, nat_tests)
    go (inr m) =
        let z : bit_and s (single e) ≡ 0 = ext _ _ (λ f. grind (arith, members)) in
        grind (arith, nat_tests)

-- `(s >> (e - 1)) & 1 == 1`
bit_div : (s k : ℕ) → bit s k ≡ eqb (s / 2 ^ k % 2) 1
unfolding bit
bit_div s zero = (let p : s / 1 ≡ s = omega arith in rw p)
bit_div s (suc k) = bit_div (s / 2) k ∙ ap (λ (x : ℕ). eqb (x % 2) 1) (shr-shr s 1 k ∙ ap (λ (x : ℕ). s / 2 ^ x) (one-add k))

pub shift_tests : (s e : ℕ) → 1 ≤ e → eqb (bit_and (s / 2 ^ (e - 1)) 1) 1 ≡ has s e
unfolding has
shift_tests s zero h = absurd (omega arith)
shift_tests s (suc k) h = let p : suc k - 1 ≡ k = omega arith in rw p (ap (λ (x : ℕ). eqb x 1) (and_mask (s / 2 ^ k) 1) ∙ sym (bit_div s k))

-- `64 - s.leading_zeros()`
pub leading_is : (w s : ℕ) → 0 < s → s < 2 ^ w → (has s (w - count_leading_zeros w s) ≡ true) × ((e : ℕ) → w - count_leading_zeros w s < e → has s e ≡ false)
leading_is w s h l = go (leading_top w s h l)
  where
    go : (j : ℕ) × (count_leading_zeros w s + suc j ≡ w) × (2 ^ j ≤ s) × (s < 2 ^ suc j)
        → (has s (w - count_leading_zeros w s) ≡ true) × ((e : ℕ) → w - count_leading_zeros w s < e → has s e ≡ false)
    go (j, p, q, r) = let e : w - count_leading_zeros w s ≡ suc j = omega arith in rw e (top_is j s q r)

-- `s.trailing_zeros() + 1`
bit_lowest : (w s : ℕ) → 0 < s → s < 2 ^ w → (bit s (count_trailing_zeros w s) ≡ true) × ((k : ℕ) → k < count_trailing_zeros w s → bit s k ≡ false)
unfolding count_trailing_zeros
bit_lowest zero s h l = absurd (omega arith)
bit_lowest (suc w) s h l = go (s % 2) refl (bit_low s) (bit_lowest w (s / 2))
  where
    go : (x : ℕ) → s % 2 ≡ x → ((bit s 0 ≡ true) × (s % 2 ≡ 1)) ⊎ ((bit s 0 ≡ false) × (s % 2 ≡ 0))
        → (0 < s / 2 → s / 2 < 2 ^ w → (bit (s / 2) (count_trailing_zeros w (s / 2)) ≡ true) × ((k : ℕ) → k < count_trailing_zeros w (s / 2) → bit (s / 2) k ≡ false))
        → (bit s (under x (count_trailing_zeros w (s / 2))) ≡ true) × ((k : ℕ) → k < under x (count_trailing_zeros w (s / 2)) → bit s k ≡ false)
    go zero p (inl q) ih = absurd (omega arith)
    go (suc x) p (inr q) ih = absurd (omega arith)
    go (suc x) p (inl q) ih = (q.0, λ k g. absurd (omega arith))
    go zero p (inr q) ih = let r = ih (omega arith) (omega arith) in (bit_up s (count_trailing_zeros w (s / 2)) ∙ r.0, under_all r.1)
      where
        under_all : ((k : ℕ) → k < count_trailing_zeros w (s / 2) → bit (s / 2) k ≡ false) → (k : ℕ) → k < suc (count_trailing_zeros w (s / 2)) → bit s k ≡ false
        under_all f zero g = q.0
        under_all f (suc k) g = bit_up s k ∙ f k (omega arith)

pub trailing_is : (w s : ℕ) → 0 < s → s < 2 ^ w → (has s (count_trailing_zeros w s + 1) ≡ true) × ((e : ℕ) → e < count_trailing_zeros w s + 1 → has s e ≡ false)
unfolding has
trailing_is w s h l =
    let r = bit_lowest w s h l in let e : count_trailing_zeros w s + 1 ≡ suc (count_trailing_zeros w s) = omega arith in
    rw e (r.0, under_all r.1)
  where
    under_all : ((k : ℕ) → k < count_trailing_zeros w s → bit s k ≡ false) → (e : ℕ) → e < suc (count_trailing_zeros w s) → has s e ≡ false
    under_all f zero g = refl
    under_all f (suc k) g = f k (omega arith)

-- `!s`
pub has_outside : (s e : ℕ) → s < 2 ^ 64 → 1 ≤ e → e ≤ 64 → has (18446744073709551615 - s) e ≡ not (has s e)
unfolding has
has_outside s zero h l g = absurd (omega arith)
has_outside s (suc k) h l g = let b = bit_not 64 s k h in grind (arith, nat_tests)
