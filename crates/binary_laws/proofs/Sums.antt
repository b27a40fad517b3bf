-- Sums of the words of a set.
use Rattle.std.proofs.Common.{◌≡◌, ℕ, zero, suc, ◌<◌, ◌≤◌, Bool, true, false, cond, eqb, sym, refl, ap, ◌∙◌, ap₂, arith}
use native.Mathlib.Decide.{ℕ_discrete}
use lib.Bits.{bit_xor, xor_zero_r}
use Rattle.std.proofs.lemmas.Bool.Decides.{nat_tests}
use Rattle.labels.specs.Sets.{has, differs, insert, remove, single}
use Rattle.labels.proofs.Member.{has_none, has_single, has_xor, members}
use Rattle.labels.proofs.Card.{ext, xor_back}
use Rattle.binary_laws.specs.Binary.{xor_sum}
use Rattle.binary_laws.proofs.Basics.{remove_xor, insert_xor, has_cond}

pub mixed : (x y w : ℕ) (p q r : Bool) → r ≡ differs p q → bit_xor (bit_xor x y) (cond r w 0) ≡ bit_xor (bit_xor x (cond p w 0)) (bit_xor y (cond q w 0))
mixed x y w true true r h = ext _ _ (λ e. let c = has_cond r w 0 e in grind (arith, members))
mixed x y w true false r h = ext _ _ (λ e. let c = has_cond r w 0 e in grind (arith, members))
mixed x y w false true r h = ext _ _ (λ e. let c = has_cond r w 0 e in grind (arith, members))
mixed x y w false false r h = ext _ _ (λ e. let c = has_cond r w 0 e in grind (arith, members))

module _ (v : ℕ → ℕ) where
  pub linear : (m x y : ℕ) → xor_sum v m (bit_xor x y) ≡ bit_xor (xor_sum v m x) (xor_sum v m y)
  unfolding xor_sum
  linear zero x y = sym (xor_zero_r 0)
  linear (suc m) x y =
      ap (λ (z : ℕ). bit_xor z (cond (has (bit_xor x y) (suc m)) (v (suc m)) 0)) (linear m x y)
      ∙ mixed (xor_sum v m x) (xor_sum v m y) (v (suc m)) (has x (suc m)) (has y (suc m)) (has (bit_xor x y) (suc m)) (has_xor x y (suc m))

  -- words that are all 0
  pub xor_sum_none : (m t : ℕ) → ((e : ℕ) → 1 ≤ e → e ≤ m → has t e ≡ true → v e ≡ 0) → xor_sum v m t ≡ 0
  unfolding xor_sum
  xor_sum_none zero t f = refl
  xor_sum_none (suc m) t f =
      ap₂ bit_xor (xor_sum_none m t (λ e l g i. f e l (omega arith) i)) (go (has t (suc m)) refl) ∙ xor_zero_r 0
    where
      go : (b : Bool) → has t (suc m) ≡ b → cond b (v (suc m)) 0 ≡ 0
      go true h = f (suc m) (omega arith) (omega arith) h
      go false h = refl

  pub xor_sum_empty : (m : ℕ) → xor_sum v m 0 ≡ 0
  xor_sum_empty m = xor_sum_none m 0 (λ e l g i. let z = has_none e in absurd (grind arith))

  -- one word
  above_single : (m e : ℕ) → m < e → xor_sum v m (single e) ≡ 0
  above_single m e h = xor_sum_none m (single e) (λ f l g i. let z = has_single e f (omega arith) in absurd (grind (arith, nat_tests)))

  pub xor_sum_single : (m e : ℕ) → 1 ≤ e → e ≤ m → xor_sum v m (single e) ≡ v e
  unfolding xor_sum
  xor_sum_single zero e l g = absurd (omega arith)
  xor_sum_single (suc m) e l g = go (ℕ_discrete e (suc m)) (xor_sum_single m e l) (has (single e) (suc m)) (has_single e (suc m) l)
    where
      go : Dec (e ≡ suc m) → (e ≤ m → xor_sum v m (single e) ≡ v e) → (b : Bool) → b ≡ eqb e (suc m) → bit_xor (xor_sum v m (single e)) (cond b (v (suc m)) 0) ≡ v e
      go (yes z) ih true h = ap (λ (x : ℕ). bit_xor x (v (suc m))) (above_single m e (omega arith)) ∙ ap v (sym z)
      go (yes z) ih false h = absurd (grind (arith, nat_tests))
      go (no z) ih true h = absurd (grind (arith, nat_tests))
      go (no z) ih false h = xor_zero_r (xor_sum v m (single e)) ∙ ih (omega arith)

  -- one label more, and one less
  pub xor_sum_insert : (n t e : ℕ) → 1 ≤ e → e ≤ n → has t e ≡ false → xor_sum v n (insert t e) ≡ bit_xor (xor_sum v n t) (v e)
  xor_sum_insert n t e l g o = ap (xor_sum v n) (insert_xor t e l o) ∙ linear n t (single e) ∙ ap (bit_xor (xor_sum v n t)) (xor_sum_single n e l g)

  pub xor_sum_remove : (n t e : ℕ) → 1 ≤ e → e ≤ n → has t e ≡ true → xor_sum v n t ≡ 0 → xor_sum v n (remove t e) ≡ v e
  xor_sum_remove n t e l g m z =
      xor_back (xor_sum v n (remove t e)) (v e)
      (ap (bit_xor (xor_sum v n (remove t e))) (sym (xor_sum_single n e l g)) ∙ sym (linear n (remove t e) (single e)) ∙ ap (xor_sum v n) (sym (remove_xor t e m)) ∙ z)

  -- the words of the labels of t, each a sum of other words
  pub spread : (n : ℕ) (c : ℕ → ℕ) (t m : ℕ) → ((e : ℕ) → 1 ≤ e → e ≤ m → has t e ≡ true → xor_sum v n (c e) ≡ v e) → xor_sum v n (xor_sum c m t) ≡ xor_sum v m t
  unfolding xor_sum
  spread n c t zero f = xor_sum_empty n
  spread n c t (suc m) f =
      linear n (xor_sum c m t) (cond (has t (suc m)) (c (suc m)) 0)
      ∙ ap₂ bit_xor (spread n c t m (λ e l g i. f e l (omega arith) i)) (go (has t (suc m)) refl)
    where
      go : (b : Bool) → has t (suc m) ≡ b → xor_sum v n (cond b (c (suc m)) 0) ≡ cond b (v (suc m)) 0
      go true h = f (suc m) (omega arith) (omega arith) h
      go false h = xor_sum_empty n
