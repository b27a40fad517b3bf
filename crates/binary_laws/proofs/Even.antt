-- A sum is 0 where each place is met an even number of times.
use Rattle.std.proofs.Common.{◌≡◌, ℕ, zero, suc, ◌+◌, ◌%◌, ◌≤◌, Bool, true, false, cond, ◌&&◌, eqb, leb, ◌⊎◌, ◌↔◌, sym, refl, ap, ◌∙◌, subst, inl, inr, arith}
use lib.Bits.{bit_and, bit_or, bit_xor}
use Rattle.std.proofs.lemmas.Bool.Decides.{nat_tests}
use Rattle.std.proofs.lemmas.Bool.{cases_Bool}
use Rattle.labels.specs.Sets.{has, differs, insert, single, card, passing}
use Rattle.labels.proofs.Member.{has_none, has_single, has_xor, members}
use Rattle.labels.proofs.Card.{ext, card_zero, card_insert, card_or_and}
use Rattle.labels.proofs.Passing.{has_passing}
use Rattle.binary_laws.specs.Binary.{xor_sum, times}
use Rattle.binary_laws.specs.Graphic.{incidence, meets, Joined}

card_step : (t : ℕ → Bool) (n : ℕ) → card (passing t (suc n)) ≡ card (passing t n) + cond (t (suc n)) 1 0
unfolding passing
card_step t n = go (t (suc n))
  where
    go : (b : Bool) → card (cond b (insert (passing t n) (suc n)) (passing t n)) ≡ card (passing t n) + cond b 1 0
    go true = card_insert (passing t n) (suc n) (omega arith) (let h = has_passing t n (suc n) in grind (arith, nat_tests)) ∙ omega arith
    go false = omega arith

-- the one flag is the other's parity
abbrev Odd : Bool → ℕ → Type 0
Odd b c = ((b ≡ true) × (c % 2 ≡ 1)) ⊎ ((b ≡ false) × (c % 2 ≡ 0))

odd_more : (b p : Bool) (c : ℕ) → Odd b c → Odd (differs b p) (c + cond p 1 0)
odd_more true true c (inl (x, y)) = inr (refl, omega arith)
odd_more true true c (inr (x, y)) = absurd (grind arith)
odd_more true false c (inl (x, y)) = inl (refl, omega arith)
odd_more true false c (inr (x, y)) = absurd (grind arith)
odd_more false true c (inl (x, y)) = absurd (grind arith)
odd_more false true c (inr (x, y)) = inl (refl, omega arith)
odd_more false false c (inl (x, y)) = absurd (grind arith)
odd_more false false c (inr (x, y)) = inr (refl, omega arith)

card_none_passing : (t : ℕ → Bool) → card (passing t 0) ≡ 0
unfolding passing
card_none_passing t = card_zero

module _ (v : ℕ → ℕ) (t k : ℕ) where
  has_step : (n : ℕ) → has (xor_sum v (suc n) t) k ≡ differs (has (xor_sum v n t) k) (has t (suc n) && has (v (suc n)) k)
  unfolding xor_sum
  has_step n = has_xor (xor_sum v n t) (cond (has t (suc n)) (v (suc n)) 0) k ∙ ap (differs (has (xor_sum v n t) k)) (go (has t (suc n)))
    where
      go : (b : Bool) → has (cond b (v (suc n)) 0) k ≡ (b && has (v (suc n)) k)
      go true = refl
      go false = has_none k

  has_start : has (xor_sum v 0 t) k ≡ false
  unfolding xor_sum
  has_start = has_none k

  parity : (n : ℕ) → Odd (has (xor_sum v n t) k) (times n v t k)
  parity zero = inr (has_start, omega (arith, card_none_passing (λ e. has t e && has (v e) k)))
  parity (suc n) =
      subst (λ (b : Bool). Odd b (times (suc n) v t k)) (sym (has_step n))
      (subst (λ (c : ℕ). Odd (differs (has (xor_sum v n t) k) (has t (suc n) && has (v (suc n)) k)) c) (sym (card_step (λ e. has t e && has (v e) k) n))
      (odd_more (has (xor_sum v n t) k) (has t (suc n) && has (v (suc n)) k) (times n v t k) (parity n)))

odd_even : (b : Bool) (c : ℕ) → Odd b c → b ≡ false → c % 2 ≡ 0
odd_even b c (inl (x, y)) h = absurd (grind arith)
odd_even b c (inr (x, y)) h = y

even_odd : (b : Bool) (c : ℕ) → Odd b c → c % 2 ≡ 0 → b ≡ false
even_odd b c (inl (x, y)) h = absurd (omega arith)
even_odd b c (inr (x, y)) h = x

pub even_places : (n : ℕ) (v : ℕ → ℕ) (t : ℕ) → (xor_sum v n t ≡ 0) ↔ ((k : ℕ) → times n v t k % 2 ≡ 0)
even_places n v t = (
  λ z k. odd_even (has (xor_sum v n t) k) (times n v t k) (parity v t k n) (ap (λ (x : ℕ). has x k) z ∙ has_none k),
  λ g. ext (xor_sum v n t) 0 (λ k. even_odd (has (xor_sum v n t) k) (times n v t k) (parity v t k n) (g k) ∙ sym (has_none k)),
)

-- ---- edges

parity_of_sum : (x y a : ℕ) → a ≡ card (bit_xor x y) → a % 2 ≡ (card x + card y) % 2
parity_of_sum x y a h =
    let p = card_or_and x y in let q = card_or_and (bit_xor x y) (bit_and x y) in
    let o : bit_or (bit_xor x y) (bit_and x y) ≡ bit_or x y = ext _ _ (λ e. grind (arith, members)) in
    let n : bit_and (bit_xor x y) (bit_and x y) ≡ 0 = ext _ _ (λ e. grind (arith, members)) in
    let o' = ap card o in let n' = ap card n in let z = card_zero in omega arith

-- the word of an edge has the places of its points, and that of a loop none
has_incidence : (a b : ℕ → ℕ) (e k : ℕ) → (1 ≤ a e) × (1 ≤ b e) → has (incidence a b e) k ≡ differs (eqb (a e) k) (eqb (b e) k)
has_incidence a b e k q = let x = has_single (a e) k q.0 in let y = has_single (b e) k q.1 in let z = has_xor (single (a e)) (single (b e)) k in grind arith

pub times_meets : (n : ℕ) (a b : ℕ → ℕ) → Joined n a b → (t k : ℕ) → times n (incidence a b) t k % 2 ≡ meets n a b t k % 2
times_meets n a b ok t k = parity_of_sum (passing A n) (passing B n) _ (ap card (ext _ _ (λ e. go e (cases_Bool (leb 1 e && leb e n)))))
  where
    A : ℕ → Bool
    A e = has t e && eqb (a e) k

    B : ℕ → Bool
    B e = has t e && eqb (b e) k

    W : ℕ → Bool
    W e = has t e && has (incidence a b e) k

    go : (e : ℕ) → ((leb 1 e && leb e n) ≡ true) ⊎ ((leb 1 e && leb e n) ≡ false) → has (passing W n) e ≡ has (bit_xor (passing A n) (passing B n)) e
    go e (inl i) =
        let w = has_passing W n e in let p = has_passing A n e in let q = has_passing B n e in let x = has_xor (passing A n) (passing B n) e in
        let s = has_incidence a b e k (ok e (grind (arith, nat_tests)) (grind (arith, nat_tests))) in grind arith
    go e (inr o) =
        let w = has_passing W n e in let p = has_passing A n e in let q = has_passing B n e in let x = has_xor (passing A n) (passing B n) e in grind arith
