-- The labels of a word, upwards: the lowest and those that are left, and those of 1..n alone.
use Rattle.std.proofs.Common.{◌≡◌, ℕ, suc, ◌+◌, ◌-◌, zero, ◌/◌, ◌^◌, ◌<◌, ◌≤◌, min, true, false, List, ◌∷◌, length, get_or, drop, sym, ◌∙◌, ap, subst, arith}
use lib.Bits.{bit_and, bit_xor, xor_lt}
use lib.Count.{count_trailing_zeros}
use native.Mathlib.Decide.{ℕ_discrete}
use Rattle.std.proofs.lemmas.Bool.Decides.{nat_tests}
use Rattle.labels.specs.Sets.{bit, has, single, full}
use Rattle.labels.specs.Listed.{labels_in}
use Rattle.labels.proofs.Member.{bit_low, bit_up, has_above, has_none, has_pos, has_zero, members}
use Rattle.labels.proofs.Card.{ext}
use Rattle.labels.proofs.Words.{single_below, trailing_is}
use Rattle.labels.proofs.Upwards.{labels_lowest, labels_none, labels_cut}

-- the lowest label of a word that has one
abbrev lowest : ℕ → ℕ
lowest s = count_trailing_zeros 64 s + 1

lowest_fits : (s : ℕ) → 0 < s → s < 2 ^ 64 → count_trailing_zeros 64 s + 1 ≤ 64
lowest_fits s l h = go (trailing_is 64 s l h).0
  where
    go : has s (count_trailing_zeros 64 s + 1) ≡ true → count_trailing_zeros 64 s + 1 ≤ 64
    go t = let q = has_above 64 s (count_trailing_zeros 64 s + 1) h in grind (arith, t)

pub takes_lowest : (s : ℕ) → 0 < s → s < 2 ^ 64
    → labels_in s 64 ≡ (count_trailing_zeros 64 s + 1) ∷ labels_in (bit_xor s (single (count_trailing_zeros 64 s + 1))) 64
takes_lowest s l h = go (count_trailing_zeros 64 s + 1) (omega arith) (lowest_fits s l h) (trailing_is 64 s l h)
  where
    go : (e : ℕ) → 1 ≤ e → e ≤ 64 → (has s e ≡ true) × ((f : ℕ) → f < e → has s f ≡ false) → labels_in s 64 ≡ e ∷ labels_in (bit_xor s (single e)) 64
    go e g k t = labels_lowest s (bit_xor s (single e)) e 64 g
        k
        t.0 t.1
        (λ f i. let u = t.0 in let v = t.1 f in grind (arith, members, nat_tests))
        (λ f i. grind (arith, members, nat_tests))

-- one less than a number whose lowest digit stands at k: that digit is off, and those above are the same
less_one : (k s : ℕ) → bit s k ≡ true → ((j : ℕ) → j < k → bit s j ≡ false) → (bit (s - 1) k ≡ false) × ((j : ℕ) → k < j → bit (s - 1) j ≡ bit s j)
less_one zero s m low = (let p = bit_low s in let q = bit_low (s - 1) in grind arith, above)
  where
    half : (s - 1) / 2 ≡ s / 2
    half = let p = bit_low s in grind arith

    above : (j : ℕ) → 0 < j → bit (s - 1) j ≡ bit s j
    above zero h = absurd (omega arith)
    above (suc j) h = bit_up (s - 1) j ∙ ap (λ (x : ℕ). bit x j) half ∙ sym (bit_up s j)
less_one (suc k) s m low = go (less_one k (s / 2) (sym (bit_up s k) ∙ m) (λ j h. sym (bit_up s j) ∙ low (suc j) (omega arith)))
  where
    half : (s - 1) / 2 ≡ s / 2 - 1
    half = let p = bit_low s in let q = low 0 (omega arith) in grind arith

    go : (bit (s / 2 - 1) k ≡ false) × ((j : ℕ) → k < j → bit (s / 2 - 1) j ≡ bit (s / 2) j) → (bit (s - 1) (suc k) ≡ false) × ((j : ℕ) → suc k < j → bit (s - 1) j ≡ bit s j)
    go (off, same) = (bit_up (s - 1) k ∙ ap (λ (x : ℕ). bit x k) half ∙ off, above)
      where
        above : (j : ℕ) → suc k < j → bit (s - 1) j ≡ bit s j
        above zero h = absurd (omega arith)
        above (suc j) h = bit_up (s - 1) j ∙ ap (λ (x : ℕ). bit x j) half ∙ same j (omega arith) ∙ sym (bit_up s j)

less_label : (s e : ℕ) → has s e ≡ true → ((f : ℕ) → f < e → has s f ≡ false) → (has (s - 1) e ≡ false) × ((f : ℕ) → e < f → has (s - 1) f ≡ has s f)
unfolding has
less_label s zero m low = absurd (let z = has_zero s in grind arith)
less_label s (suc k) m low = (less.0, same)
  where
    less : (bit (s - 1) k ≡ false) × ((j : ℕ) → k < j → bit (s - 1) j ≡ bit s j)
    less = less_one k s m (λ j h. low (suc j) (omega arith))

    same : (f : ℕ) → suc k < f → has (s - 1) f ≡ has s f
    same zero h = absurd (omega arith)
    same (suc j) h = less.1 j (omega arith)

-- `s & (s - 1)` is s without its lowest label
without_lowest : (s e : ℕ) → has s e ≡ true → ((f : ℕ) → f < e → has s f ≡ false) → bit_and s (s - 1) ≡ bit_xor s (single e)
without_lowest s e m low = ext _ _ (λ f. go f (ℕ_discrete f e) (low f) (l.1 f))
  where
    l : (has (s - 1) e ≡ false) × ((f : ℕ) → e < f → has (s - 1) f ≡ has s f)
    l = less_label s e m low

    go : (f : ℕ) → Dec (f ≡ e) → (f < e → has s f ≡ false) → (e < f → has (s - 1) f ≡ has s f) → has (bit_and s (s - 1)) f ≡ has (bit_xor s (single e)) f
    go f (yes z) p q = ap (has (bit_and s (s - 1))) z ∙ (let a = l.0 in let i = has_pos s e m in grind (arith, members, nat_tests)) ∙ ap (has (bit_xor s (single e))) (sym z)
    go f (no z) p q = grind (arith, members, nat_tests)

-- the same, with the word that is left as the code makes it
pub next_is : (s : ℕ) → 0 < s → s < 2 ^ 64 → labels_in s 64 ≡ (count_trailing_zeros 64 s + 1) ∷ labels_in (bit_and s (s - 1)) 64
next_is s l h =
    let t = trailing_is 64 s l h in
    takes_lowest s l h ∙ ap (λ (x : ℕ). (count_trailing_zeros 64 s + 1) ∷ labels_in x 64) (sym (without_lowest s (lowest s) t.0 t.1))

-- `labels_of(s & full_to(m))` hands out the labels of s among 1..n
pub listed_to : (s n m w : ℕ) → n ≤ 64 → m ≡ n → w ≡ full (min m 64) → labels_in (bit_and s w) 64 ≡ labels_in s n
listed_to s n m w h k q =
    let z : min m 64 ≡ n = omega arith in
    ap (λ (x : ℕ). labels_in (bit_and s x) 64) (q ∙ ap full z) ∙ labels_cut s n 64 h

-- the label that was handed out, and the word that is left
pub word_left : (s e : ℕ) (left : List ℕ) → s < 2 ^ 64 → labels_in s 64 ≡ e ∷ left
    → (has s e ≡ true) × (left ≡ labels_in (bit_xor s (single e)) 64) × (bit_xor s (single e) < 2 ^ 64)
word_left zero e left h q = let z = ap (length {A = ℕ}) (sym (labels_none 0 64 (λ f _. has_none f)) ∙ q) in absurd (omega (arith, z))
word_left (suc s) e left h q = go (takes_lowest (suc s) (omega arith) h) (trailing_is 64 (suc s) (omega arith) h).0 (lowest_fits (suc s) (omega arith) h)
  where
    go : labels_in (suc s) 64 ≡ lowest (suc s) ∷ labels_in (bit_xor (suc s) (single (lowest (suc s)))) 64 → has (suc s) (lowest (suc s)) ≡ true → lowest (suc s) ≤ 64
        → (has (suc s) e ≡ true) × (left ≡ labels_in (bit_xor (suc s) (single e)) 64) × (bit_xor (suc s) (single e) < 2 ^ 64)
    go p m l =
        let first : lowest (suc s) ≡ e = ap (λ (es : List ℕ). get_or es 0 0) (sym p ∙ q) in
        let others : labels_in (bit_xor (suc s) (single (lowest (suc s)))) 64 ≡ left = ap (drop 1) (sym p ∙ q) in
        subst (λ (x : ℕ). (has (suc s) x ≡ true) × (left ≡ labels_in (bit_xor (suc s) (single x)) 64) × (bit_xor (suc s) (single x) < 2 ^ 64)) first
        (m, sym others, xor_lt 64 (suc s) (single (lowest (suc s))) h (single_below 64 (lowest (suc s)) (omega arith) l))
