-- More words than places: some of the words, not none, have the sum 0.
use Rattle.std.proofs.Common.{◌≡◌, ℕ, zero, suc, ◌^◌, ◌<◌, ◌≤◌, Bool, true, false, cond, ◌&&◌, ◌⊎◌, sym, refl, ap, ◌∙◌, inl, inr, arith}
use lib.Bits.{bit_xor, xor_zero_r}
use Rattle.std.proofs.lemmas.Bool.{and_parts}
use Rattle.std.proofs.lemmas.Nat.{zero_from_ones}
use Rattle.labels.specs.Sets.{has, differs, insert, remove, Subset, card}
use Rattle.labels.proofs.Member.{has_pos, has_none, has_xor, members}
use Rattle.labels.proofs.Card.{ext, within_back, card_zero, card_remove, some_by_card}
use Rattle.labels.proofs.Find.{find}
use Rattle.labels.proofs.Parts.{insert_subset, subset_below, subset_none}
use Rattle.binary_laws.specs.Binary.{xor_sum}
use Rattle.binary_laws.proofs.Basics.{insert_some, subset_of_remove, out_of_remove, has_cond}
use Rattle.binary_laws.proofs.Sums.{xor_sum_none, xor_sum_insert}

-- the words with the place a cleared by the word q
abbrev cleared : (ℕ → ℕ) → ℕ → ℕ → ℕ → ℕ
cleared c a q e = cond (has (c e) a) (bit_xor (c e) q) (c e)

clear_step : (x w q a : ℕ) (h hw hx r : Bool) → has q a ≡ true → has w a ≡ hw → has x a ≡ hx → has (bit_xor x (cond h w 0)) a ≡ r
    → bit_xor (bit_xor x (cond hx q 0)) (cond h (cond hw (bit_xor w q) w) 0) ≡ bit_xor (bit_xor x (cond h w 0)) (cond r q 0)
clear_step x w q a true hw hx r i p o s = ext _ _ (λ e.
    let l = has_xor x w a in let k = has_cond hx q 0 e in let m = has_cond hw (bit_xor w q) w e in let j = has_cond r q 0 e in go e l k m j)
  where
    go : (e : ℕ) → has (bit_xor x w) a ≡ differs (has x a) (has w a) → has (cond hx q 0) e ≡ cond hx (has q e) (has 0 e)
        → has (cond hw (bit_xor w q) w) e ≡ cond hw (has (bit_xor w q) e) (has w e) → has (cond r q 0) e ≡ cond r (has q e) (has 0 e)
        → has (bit_xor (bit_xor x (cond hx q 0)) (cond hw (bit_xor w q) w)) e ≡ has (bit_xor (bit_xor x w) (cond r q 0)) e
    go e l k m j = grind (arith, members)
clear_step x w q a false hw hx r i p o s = ext _ _ (λ e.
    let l = has_xor x 0 a in let k = has_cond hx q 0 e in let j = has_cond r q 0 e in go e l k j)
  where
    go : (e : ℕ) → has (bit_xor x 0) a ≡ differs (has x a) (has 0 a) → has (cond hx q 0) e ≡ cond hx (has q e) (has 0 e)
        → has (cond r q 0) e ≡ cond r (has q e) (has 0 e)
        → has (bit_xor (bit_xor x (cond hx q 0)) 0) e ≡ has (bit_xor (bit_xor x 0) (cond r q 0)) e
    go e l k j = grind (arith, members)

clear_sum : (c : ℕ → ℕ) (a q t : ℕ) → has q a ≡ true → (m : ℕ)
    → xor_sum (cleared c a q) m t ≡ bit_xor (xor_sum c m t) (cond (has (xor_sum c m t) a) q 0)
unfolding xor_sum
clear_sum c a q t i zero = ap (λ (b : Bool). cond b q 0) (sym (has_none a))
clear_sum c a q t i (suc m) =
    ap (λ (z : ℕ). bit_xor z (cond (has t (suc m)) (cleared c a q (suc m)) 0)) (clear_sum c a q t i m)
    ∙ clear_step (xor_sum c m t) (c (suc m)) q a (has t (suc m)) (has (c (suc m)) a) (has (xor_sum c m t) a) _ i refl refl refl

remove_only : (x s a : ℕ) → Subset x s → has s a ≡ true → has x a ≡ false → Subset x (remove s a)
remove_only x s a p i o e m = let l = has_pos s a i in let q = p e in grind (arith, members)

clear_subset : (w q s a : ℕ) (h : Bool) → has s a ≡ true → has q a ≡ true → Subset q s → Subset w s → has w a ≡ h → Subset (cond h (bit_xor w q) w) (remove s a)
clear_subset w q s a true i j p r o e m = let l = has_pos s a i in let y = p e in let z = r e in grind (arith, members)
clear_subset w q s a false i j p r o e m = remove_only w s a r i o e m

module _ (n : ℕ) where
  pub dependent : (k a b : ℕ) (c : ℕ → ℕ) → card a ≡ k → k < card b → b < 2 ^ n → ((e : ℕ) → has b e ≡ true → Subset (c e) a)
      → (t : ℕ) × Subset t b × (t ≡ 0 → ⊥) × (xor_sum c n t ≡ 0)
  dependent zero a b c h l g f =
      (b, λ e m. m, λ z. omega (arith, ap card z, card_zero), xor_sum_none c n b (λ e x y m. subset_none (c e) a (f e m) (zero_from_ones a h)))
  dependent (suc k) a b c h l g f = from (some_by_card a (omega arith)) (dependent k)
    where
      from : (x : ℕ) × (has a x ≡ true) → ((a b : ℕ) (c : ℕ → ℕ) → card a ≡ k → k < card b → b < 2 ^ n → ((e : ℕ) → has b e ≡ true → Subset (c e) a)
          → (t : ℕ) × Subset t b × (t ≡ 0 → ⊥) × (xor_sum c n t ≡ 0)) → (t : ℕ) × Subset t b × (t ≡ 0 → ⊥) × (xor_sum c n t ≡ 0)
      from (x, i) ih = go (find (λ e. has b e && has (c e) x) n)
        where
          small : card (remove a x) ≡ k
          small = omega (arith, card_remove a x i)

          unused : (e : ℕ) → has b e ≡ true → (has b e && has (c e) x) ≡ false → has (c e) x ≡ false
          unused e m o = grind arith

          -- p's word has the place x
          pivot : (p : ℕ) → 1 ≤ p → p ≤ n → has b p ≡ true → has (c p) x ≡ true → (t : ℕ) × Subset t b × (t ≡ 0 → ⊥) × (xor_sum c n t ≡ 0)
          pivot p u w m o =
              back (ih (remove a x) (remove b p) (cleared c x (c p)) small (omega (arith, card_remove b p m)) less
              (λ e y. clear_subset (c e) (c p) a x (has (c e) x) i o (f p m) (f e (in_b e y)) refl))
            where
              in_b : (e : ℕ) → has (remove b p) e ≡ true → has b e ≡ true
              in_b e y = subset_of_remove (remove b p) b p (λ e y. y) e y

              less : remove b p < 2 ^ n
              less = subset_below n (remove b p) b in_b g

              back : (t : ℕ) × Subset t (remove b p) × (t ≡ 0 → ⊥) × (xor_sum (cleared c x (c p)) n t ≡ 0) → (t : ℕ) × Subset t b × (t ≡ 0 → ⊥) × (xor_sum c n t ≡ 0)
              back (t, q, r, s) = ends (has (xor_sum c n t) x) (sym (clear_sum c x (c p) t o n) ∙ s)
                where
                  ends : (r : Bool) → bit_xor (xor_sum c n t) (cond r (c p) 0) ≡ 0 → (t : ℕ) × Subset t b × (t ≡ 0 → ⊥) × (xor_sum c n t ≡ 0)
                  ends false z = (t, subset_of_remove t b p q, r, sym (xor_zero_r (xor_sum c n t)) ∙ z)
                  ends true z = (
                    insert t p,
                    insert_subset t b p (subset_of_remove t b p q) m,
                    insert_some t p u,
                    xor_sum_insert c n t p u w (out_of_remove t b p q u) ∙ z,
                  )

          go : ((e : ℕ) × (1 ≤ e) × (e ≤ n) × ((has b e && has (c e) x) ≡ true)) ⊎ ((e : ℕ) → 1 ≤ e → e ≤ n → (has b e && has (c e) x) ≡ false)
              → (t : ℕ) × Subset t b × (t ≡ 0 → ⊥) × (xor_sum c n t ≡ 0)
          go (inr none) = ih (remove a x) b c small (omega arith) g
              (λ e m. remove_only (c e) a x (f e m) i (unused e m (none e (has_pos b e m) (within_back n b e g m))))
          go (inl (p, u, w, y)) = pivot p u w (and_parts _ _ y).0 (and_parts _ _ y).1
