-- What a word can hold.
use Rattle.std.proofs.Common.{◌≡◌, ℕ, zero, suc, ◌-◌, ◌^◌, ◌<◌, ◌≤◌, min, Bool, true, false, cond, ◌&&◌, leb, ◌⊎◌, ap, ◌∙◌, ap₂, inl, inr, arith, pow_pos, pow_mono}
use lib.Bits.{bit_and, bit_or, bit_xor}
use Rattle.std.proofs.lemmas.Bool.Decides.{nat_tests}
use Rattle.labels.specs.Sets.{has, single, full, reopened, swap}
use Rattle.labels.proofs.Member.{has_zero, has_above}
use Rattle.labels.proofs.Words.{and_not_is}
use Rattle.label_words.specs.Words.{word_of}

pub word_in : (e : ℕ) → 1 ≤ e → e ≤ 64 → word_of e ≡ single e
word_in e l g = let f : (leb 1 e && leb e 64) ≡ true = grind (arith, nat_tests) in ap (λ (b : Bool). cond b (single e) 0) f

pub has_beyond : (s e : ℕ) → s < 2 ^ 64 → (1 ≤ e → e ≤ 64 → ⊥) → has s e ≡ false
has_beyond s zero h out = has_zero s
has_beyond s (suc k) h out = has_above 64 s (suc k) h (omega arith)

pub outside : (e : ℕ) → (e ≡ 0) ⊎ ((e ≡ 0 → ⊥) × (64 < e)) → 1 ≤ e → e ≤ 64 → ⊥
outside e (inl z) l g = omega arith
outside e (inr p) l g = omega arith

full_below : (k : ℕ) → k ≤ 64 → full k < 2 ^ 64
full_below k h = let p = pow_pos k in let q = pow_mono {i = k} {j = 64} h in omega arith

pub reopened_is : (a e x y : ℕ) → a < 2 ^ 64 → x ≡ full (min e 64) → y ≡ full (min (e - 1) 64) → e ≤ 64 → bit_or (bit_and a (18446744073709551615 - x)) y ≡ reopened a e
reopened_is a e x y h p q g =
    let u : min e 64 ≡ e = omega arith in let v : min (e - 1) 64 ≡ e - 1 = omega arith in
    ap₂ (λ (x y : ℕ). bit_or (bit_and a (18446744073709551615 - x)) y) (p ∙ ap full u) (q ∙ ap full v)
    ∙ ap (λ (z : ℕ). bit_or z (full (e - 1))) (and_not_is 64 a (full e) h (full_below e g))

-- what `swapped` answers, of labels that a word can hold
pub swap_is : (s e f r : ℕ) → 1 ≤ e → e ≤ 64 → 1 ≤ f → f ≤ 64 → r ≡ bit_xor s (bit_or (word_of e) (word_of f)) → r ≡ swap s e f
swap_is s e f r l g k m h = h ∙ ap (λ (x : ℕ). bit_xor s (bit_or x (word_of f))) (word_in e l g) ∙ ap (λ (x : ℕ). bit_xor s (bit_or (single e) x)) (word_in f k m)
