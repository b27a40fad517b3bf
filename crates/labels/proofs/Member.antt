-- The members of the words that code makes.
use Rattle.std.proofs.Common.{◌≡◌, ℕ, zero, suc, ◌-◌, ◌/◌, ◌%◌, ◌^◌, ◌<◌, ◌≤◌, Bool, true, false, not, ◌&&◌, ◌||◌, eqb, ltb, leb, ◌⊎◌, sym, refl, ◌∙◌, inl, inr, arith, pow_pos}
use mathlib.Core.Bool.{and-true}
use native.Mathlib.Nat.{sub-zero}
use lib.Dec.{leb-suc-zero, leb-suc-suc}
use lib.Bits.{bit_and, bit_or, bit_xor, and_mod, or_mod, xor_mod, and_shr, or_shr, xor_shr}
use Rattle.std.proofs.lemmas.Bool.Decides.{nat_tests}
use lib.Dec.{eqb-zero-suc, eqb-suc-zero, eqb-suc-suc}
use Rattle.labels.specs.Sets.{bit, has, differs, single, difference, insert, remove, swap}

module _ (op : ℕ → ℕ → ℕ) (f : Bool → Bool → Bool)
    (shr : (a b k : ℕ) → op a b / 2 ^ k ≡ op (a / 2 ^ k) (b / 2 ^ k))
    (lows : (a b k : ℕ) → op a b % 2 ^ k ≡ op (a % 2 ^ k) (b % 2 ^ k))
    (o00 : eqb (op 0 0) 1 ≡ f false false) (o01 : eqb (op 0 1) 1 ≡ f false true)
    (o10 : eqb (op 1 0) 1 ≡ f true false) (o11 : eqb (op 1 1) 1 ≡ f true true) where
  op_digit : (x y : ℕ) → x < 2 → y < 2 → eqb (op x y) 1 ≡ f (eqb x 1) (eqb y 1)
  op_digit zero zero h k = o00
  op_digit zero (suc zero) h k = o01
  op_digit (suc zero) zero h k = o10
  op_digit (suc zero) (suc zero) h k = o11
  op_digit zero (suc (suc y)) h k = absurd (omega arith)
  op_digit (suc zero) (suc (suc y)) h k = absurd (omega arith)
  op_digit (suc (suc x)) y h k = absurd (omega arith)

  op_bit : (a b k : ℕ) → bit (op a b) k ≡ f (bit a k) (bit b k)
  unfolding bit
  op_bit a b zero = rw (lows a b 1) (op_digit (a % 2) (b % 2) (omega arith) (omega arith))
  op_bit a b (suc k) = rw (shr a b 1) (op_bit (a / 2) (b / 2) k)

pub bit_of_and : (a b k : ℕ) → bit (bit_and a b) k ≡ (bit a k && bit b k)
bit_of_and = op_bit bit_and ◌&&◌ and_shr and_mod refl refl refl refl

pub bit_of_or : (a b k : ℕ) → bit (bit_or a b) k ≡ (bit a k || bit b k)
bit_of_or = op_bit bit_or ◌||◌ or_shr or_mod refl refl refl refl

pub bit_of_xor : (a b k : ℕ) → bit (bit_xor a b) k ≡ differs (bit a k) (bit b k)
bit_of_xor = op_bit bit_xor differs xor_shr xor_mod refl refl refl refl

pub bit_zero : (k : ℕ) → bit 0 k ≡ false
unfolding bit
bit_zero zero = refl
bit_zero (suc k) = bit_zero k

-- the lowest place
pub bit_low : (s : ℕ) → ((bit s 0 ≡ true) × (s % 2 ≡ 1)) ⊎ ((bit s 0 ≡ false) × (s % 2 ≡ 0))
unfolding bit
bit_low s = go (s % 2) (omega arith)
  where
    go : (x : ℕ) → x < 2 → ((eqb x 1 ≡ true) × (x ≡ 1)) ⊎ ((eqb x 1 ≡ false) × (x ≡ 0))
    go zero h = inr (refl, refl)
    go (suc zero) h = inl (refl, refl)
    go (suc (suc x)) h = absurd (omega arith)

pub bit_up : (s k : ℕ) → bit s (suc k) ≡ bit (s / 2) k
unfolding bit
bit_up s k = refl

-- a single place
pub bit_pow : (j k : ℕ) → bit (2 ^ j) k ≡ eqb j k
unfolding bit
bit_pow zero zero = refl
bit_pow zero (suc k) = bit_zero k ∙ sym (eqb-zero-suc k)
bit_pow (suc j) zero =
    let e : 2 ^ suc j % 2 ≡ 0 = omega arith in rw (e, eqb-suc-zero)
bit_pow (suc j) (suc k) =
    let e : 2 ^ suc j / 2 ≡ 2 ^ j = omega arith in rw (e, eqb-suc-suc) (bit_pow j k)

-- the complement of m in w places
pub bit_not : (w m k : ℕ) → m < 2 ^ w → bit ((2 ^ w - 1) - m) k ≡ (ltb k w && not (bit m k))
bit_not zero m k h = let e : 0 - m ≡ 0 = omega arith in rw (e, bit_zero, leb-suc-zero)
bit_not (suc w) m zero h =
    let p = bit_low m in let q = bit_low ((2 ^ suc w - 1) - m) in grind (arith, nat_tests)
bit_not (suc w) m (suc k) h =
    let e : ((2 ^ suc w - 1) - m) / 2 ≡ (2 ^ w - 1) - m / 2 = omega arith in
    rw (bit_up ((2 ^ suc w - 1) - m), bit_up m, e, leb-suc-suc) (bit_not w (m / 2) k (omega arith))

-- the n lowest places
pub bit_full : (n k : ℕ) → bit (2 ^ n - 1) k ≡ ltb k n
bit_full n k = let e = bit_not n 0 k (pow_pos n) in simp (sub-zero, bit_zero, and-true) at e

-- ---- words of code: `s & !m`, `1 << k`, `(1 << k) - 1`, at w places

-- a number of w places has no member above
pub bit_above : (w s k : ℕ) → s < 2 ^ w → w ≤ k → bit s k ≡ false
bit_above zero s k h l = let e : s ≡ 0 = omega arith in rw (e, bit_zero)
bit_above (suc w) s zero h l = absurd (omega arith)
bit_above (suc w) s (suc k) h l = rw bit_up (bit_above w (s / 2) k (omega arith) (omega arith))

pub bit_and_not : (w s m k : ℕ) → s < 2 ^ w → m < 2 ^ w → bit (bit_and s ((2 ^ w - 1) - m)) k ≡ (bit s k && not (bit m k))
bit_and_not w s m k h l =
    let a = bit_of_and s ((2 ^ w - 1) - m) k in let b = bit_not w m k l in let c = bit_above w s k h in grind (arith, nat_tests)

-- ---- the same of labels

pub has_none : (e : ℕ) → has 0 e ≡ false
unfolding has
has_none zero = refl
has_none (suc k) = bit_zero k

pub has_and : (a b e : ℕ) → has (bit_and a b) e ≡ (has a e && has b e)
unfolding has
has_and a b zero = refl
has_and a b (suc k) = bit_of_and a b k

pub has_or : (a b e : ℕ) → has (bit_or a b) e ≡ (has a e || has b e)
unfolding has
has_or a b zero = refl
has_or a b (suc k) = bit_of_or a b k

pub has_xor : (a b e : ℕ) → has (bit_xor a b) e ≡ differs (has a e) (has b e)
unfolding has
has_xor a b zero = refl
has_xor a b (suc k) = bit_of_xor a b k

-- what is in a and not in b
pub has_difference : (a b e : ℕ) → has (difference a b) e ≡ (has a e && not (has b e))
has_difference a b e = grind (arith, has_xor, has_and)

pub has_single : (e f : ℕ) → 1 ≤ e → has (single e) f ≡ eqb e f
unfolding has single
has_single zero f h = absurd (omega arith)
has_single (suc e) zero h = sym (eqb-suc-zero e)
has_single (suc e) (suc f) h = let p : suc e - 1 ≡ e = omega arith in rw (p, eqb-suc-suc) (bit_pow e f)

-- one label more, one label less
pub has_insert : (s e f : ℕ) → 1 ≤ e → has (insert s e) f ≡ (has s f || eqb e f)
has_insert s e f h = grind (arith, has_or, has_single)

pub has_remove : (s e f : ℕ) → 1 ≤ e → has (remove s e) f ≡ (has s f && not (eqb e f))
has_remove s e f h = grind (arith, has_difference, has_single)

pub has_swap : (s e f x : ℕ) → 1 ≤ e → 1 ≤ f → has (swap s e f) x ≡ differs (has s x) (eqb e x || eqb f x)
has_swap s e f x h l = grind (arith, has_xor, has_or, has_single)

pub has_full : (n e : ℕ) → has (2 ^ n - 1) e ≡ (leb 1 e && leb e n)
unfolding has
has_full n zero = refl
has_full n (suc k) = bit_full n k ∙ grind (arith, nat_tests)

pub has_above : (n s e : ℕ) → s < 2 ^ n → n < e → has s e ≡ false
unfolding has
has_above n s zero h l = refl
has_above n s (suc k) h l = bit_above n s k h (omega arith)

pub has_zero : (s : ℕ) → has s 0 ≡ false
unfolding has
has_zero s = refl

-- a member is a label from 1 on
pub has_pos : (s e : ℕ) → has s e ≡ true → 1 ≤ e
has_pos s zero h = let z : ◌≡◌ {A = ℕ} 0 1 = cc (has_zero s) in omega arith
has_pos s (suc k) h = omega arith

-- The laws of membership with the tests of numbers, for `grind (arith, members)`.
-- Two sets are equal by `ext _ _ (λ e. grind (arith, members))`, and s is a part of t by `λ e m. grind (arith, members)`.
pub ruleset members = (has_and, has_or, has_xor, has_difference, has_none, has_single, has_insert, has_remove, has_swap, has_full, has_pos, nat_tests)
