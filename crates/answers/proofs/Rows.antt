-- The bits of a row.
use Rattle.std.proofs.Common.{◌≡◌, ℕ, zero, suc, ◌-◌, ◌*◌, ◌%◌, ◌^◌, ◌<◌, ◌≤◌, Bool, true, false, cond, ◌&&◌, ◌||◌, ◌==◌, ap, ◌∙◌, ap₂, arith}
use mir.Val.{bool_byte}
use lib.Bits.{bit_and, bit_or}
use Rattle.std.proofs.lemmas.Bool.Decides.{nat_tests}
use Rattle.labels.specs.Sets.{has, single}
use Rattle.labels.proofs.Member.{has_above, has_full, has_none, has_or, has_single, has_zero, members}
use Rattle.labels.proofs.Card.{ext}
use Rattle.labels.proofs.Words.{and_not_is, shl_is, single_below}
use Rattle.label_words.specs.Words.{word_of}
use Rattle.label_words.proofs.Held.{word_in}

-- the bit of a label, as the code makes it
pub one_is : (l x : ℕ) → 1 ≤ l → l ≤ 64 → x ≡ bit_or 0 (word_of l) → x ≡ single l
one_is l x p q h = h ∙ ap (bit_or 0) (word_in l p q) ∙ ext _ _ (λ e. grind (arith, members))

left_out : (s l x b : ℕ) → 1 ≤ l → l ≤ 64 → s < 2 ^ 64 → x ≡ single l → has (bit_and s (18446744073709551615 - x)) b ≡ cond (b == l) false (has s b)
left_out s l x b p q f h =
    ap (λ (y : ℕ). has (bit_and s (18446744073709551615 - y)) b) h ∙ ap (λ (y : ℕ). has y b) (and_not_is 64 s (single l) f (single_below 64 l p q))
    ∙ grind (arith, members, nat_tests)

-- all labels or none
abbrev pub all_or_none : Bool → ℕ
all_or_none k = cond k 18446744073709551615 0

has_all : (k : Bool) (s b : ℕ) → s < 2 ^ 64 → has s b ≡ true → has (all_or_none k) b ≡ k
has_all true s zero f h = let z = has_zero s in grind arith
has_all true s (suc b) f h = let z = has_above 64 s (suc b) f in let q = has_full 64 (suc b) in grind (arith, nat_tests)
has_all false s b f h = has_none b

pub stays_bits : (s g x b : ℕ) (k : Bool) → s < 2 ^ 64 → x ≡ all_or_none k → has (bit_and s (bit_or x g)) b ≡ (has s b && (k || has g b))
stays_bits s g x b k f h =
    let q = has_all k s b f in let y = ap (λ (z : ℕ). has z b) h in grind (arith, members)

pub turns_bits : (s g x b : ℕ) (k : Bool) → s < 2 ^ 64 → x ≡ all_or_none k → has (bit_and (bit_and x g) s) b ≡ (k && (has g b && has s b))
turns_bits s g x b k f h =
    let q = has_all k s b f in let y = ap (λ (z : ℕ). has z b) h in let w = has_none b in go k q y
  where
    go : (k : Bool) → (has s b ≡ true → has (all_or_none k) b ≡ k) → has x b ≡ has (all_or_none k) b → has (bit_and (bit_and x g) s) b ≡ (k && (has g b && has s b))
    go k q y = grind (arith, members)

pub carried_bits : (s n gy gn x w b : ℕ) (ky kn : Bool) → s < 2 ^ 64 → n < 2 ^ 64 → x ≡ all_or_none kn → w ≡ all_or_none ky
    → has (bit_or (bit_and s (bit_or x gn)) (bit_and (bit_and w gy) n)) b ≡ (has s b && (kn || has gn b) || ky && (has gy b && has n b))
carried_bits s n gy gn x w b ky kn f g p q =
    let u = stays_bits s gn x b kn f p in let v = turns_bits n gy w b ky g q in
    has_or (bit_and s (bit_or x gn)) (bit_and (bit_and w gy) n) b ∙ ap₂ (λ (i j : Bool). i || j) u v

-- a label put in or left out, without a branch
pub set_to : (s l x b : ℕ) (k : Bool) → 1 ≤ l → l ≤ 64 → s < 2 ^ 64 → x ≡ single l
    → has (bit_or (bit_and s (18446744073709551615 - x)) ((bool_byte k * 2 ^ (l - 1)) % 2 ^ 64)) b ≡ cond (b == l) k (has s b)
set_to s l x b k p q f h =
    has_or (bit_and s (18446744073709551615 - x)) ((bool_byte k * 2 ^ (l - 1)) % 2 ^ 64) b ∙ ap₂ (λ (i j : Bool). i || j) (left_out s l x b p q f h) (one_bit k) ∙ both k
  where
    one_bit : (k : Bool) → has ((bool_byte k * 2 ^ (l - 1)) % 2 ^ 64) b ≡ ((b == l) && k)
    one_bit true = ap (λ (w : ℕ). has w b) (shl_is 64 l p q) ∙ has_single l b p ∙ grind (arith, nat_tests)
    one_bit false = ap (λ (w : ℕ). has w b) (let z : (0 * 2 ^ (l - 1)) % 2 ^ 64 ≡ 0 = omega arith in z) ∙ has_none b ∙ grind (arith, nat_tests)

    both : (k : Bool) → (cond (b == l) false (has s b) || ((b == l) && k)) ≡ cond (b == l) k (has s b)
    both k = grind (arith, nat_tests)
