-- Values of sets and totals of lists.
use Rattle.std.proofs.Common.{◌≡◌, ℕ, zero, suc, ◌<◌, ◌≤◌, Bool, true, false, cond, not, ◌⊎◌, List, [], ◌∷◌, ◌++◌, sym, refl, ap, ◌∙◌, inl, inr, arith}
use Rattle.std.proofs.lemmas.Bool.{cases_eq}
use Rattle.labels.specs.Sets.{has, remove, swap}
use Rattle.labels.proofs.Member.{members}
use Rattle.labels.proofs.Swap.{swap_comm}
use Rattle.measure.specs.Laws.{GroupLaws}
use Rattle.walk_laws.specs.Law.{Reordered, chain, none, over, under}
use Rattle.walk_laws.specs.Settings.{Setting, total_of, value_of, worths, summed}

-- u is t and the label e
abbrev With : ℕ → ℕ → ℕ → Type 0
With t e u = (has t e ≡ false) × (has u e ≡ true) × ((x : ℕ) → (x ≡ e → ⊥) → has u x ≡ has t x)

remove_with : (t e : ℕ) → 1 ≤ e → has t e ≡ true → With (remove t e) e t
remove_with t e l h = (grind (arith, members), h, λ x n. grind (arith, members))

swap_with : (t i o : ℕ) → 1 ≤ i → 1 ≤ o → has t i ≡ false → has t o ≡ true → With (remove t o) i (swap t i o)
swap_with t i o l g p q = (grind (arith, members), grind (arith, members), λ x n. grind (arith, members))

other : (b x y : Bool) → x ≡ b → x ≡ not y → y ≡ not b
other b x y p q = grind arith

module _ {V : Type 0} (zero' : V) (sum : V → V → V) (opposite : V → V) (G : GroupLaws zero' sum opposite) where
  pub swap_last : (a b c : V) → sum (sum a b) c ≡ sum (sum a c) b
  swap_last a b c = G.assoc a b c ∙ ap (sum a) (G.comm b c) ∙ sym (G.assoc a c b)

  pub swap_front : (a b c : V) → sum a (sum b c) ≡ sum b (sum a c)
  swap_front a b c = sym (G.assoc a b c) ∙ ap (λ (x : V). sum x c) (G.comm a b) ∙ G.assoc b a c

  -- m + o, then i more and o less
  pub more_less : (m i o : V) → sum (sum (sum m o) i) (opposite o) ≡ sum m i
  more_less m i o =
      ap (λ (x : V). sum x (opposite o)) (swap_last m o i) ∙ G.assoc (sum m i) o (opposite o) ∙ ap (sum (sum m i)) (G.inverse o) ∙ G.unit (sum m i)

module _ {R V : Type 0} (w : Setting R V) where
  worths_same : (t u m : ℕ) → ((x : ℕ) → x ≤ m → has u x ≡ has t x) → worths w u m ≡ worths w t m
  unfolding summed
  worths_same t u zero same = refl
  worths_same t u (suc m) same = cc (same (suc m) (omega arith), worths_same t u m (λ x h. same x (omega arith)))

  module _ (G : GroupLaws w.zero w.sum w.opposite) where
    worths_with : (t e u m : ℕ) → With t e u → 1 ≤ e → e ≤ m → worths w u m ≡ w.sum (worths w t m) (w.worth e)
    unfolding summed
    worths_with t e u zero h l g = absurd (omega arith)
    worths_with t e u (suc m) (o, i, same) l g = go (cases_eq e (suc m)) (λ k. worths_with t e u m (o, i, same) l k) (has t (suc m)) refl
      where
        go : (e ≡ suc m) ⊎ (e ≡ suc m → ⊥) → (e ≤ m → worths w u m ≡ w.sum (worths w t m) (w.worth e)) → (b : Bool) → has t (suc m) ≡ b
            → cond (has u (suc m)) (w.sum (worths w u m) (w.worth (suc m))) (worths w u m)
            ≡ w.sum (cond (has t (suc m)) (w.sum (worths w t m) (w.worth (suc m))) (worths w t m)) (w.worth e)
        go (inl q) ih b p =
            let i' : has u (suc m) ≡ true = ap (has u) (sym q) ∙ i in let o' : has t (suc m) ≡ false = ap (has t) (sym q) ∙ o in
            let z = worths_same t u m (λ x h. same x (λ r. absurd (omega arith))) in
            cc (ap w.worth q)
        go (inr n) ih true p =
            let k : has u (suc m) ≡ true = same (suc m) (λ r. n (sym r)) ∙ p in let z = ih (omega arith) in
            let r = swap_last w.zero w.sum w.opposite G (worths w t m) (w.worth e) (w.worth (suc m)) in cc
        go (inr n) ih false p =
            let k : has u (suc m) ≡ false = same (suc m) (λ r. n (sym r)) ∙ p in let z = ih (omega arith) in cc

    -- the label i comes in and the label o goes out
    pub value_swap : (t i o : ℕ) → 1 ≤ i → i ≤ w.n → 1 ≤ o → o ≤ w.n → has t i ≡ false → has t o ≡ true
        → value_of w (swap t i o) ≡ w.sum (w.sum (value_of w t) (w.worth i)) (w.opposite (w.worth o))
    value_swap t i o l g l' g' p q =
        let x = worths_with (remove t o) o t w.n (remove_with t o l' q) l' g' in
        let y = worths_with (remove t o) i (swap t i o) w.n (swap_with t i o l l' p q) l g in
        y ∙ sym (more_less w.zero w.sum w.opposite G (worths w (remove t o) w.n) (w.worth i) (w.worth o))
        ∙ ap (λ (v : V). w.sum (w.sum v (w.worth i)) (w.opposite (w.worth o))) (sym x)

    pub value_exchange : (t e f : ℕ) (v : V) → v ≡ value_of w t → 1 ≤ f → f < e → e ≤ w.n → has t e ≡ not (has t f)
        → w.sum (w.sum v (w.worth (cond (not (has t e)) e f))) (w.opposite (w.worth (cond (not (has t e)) f e))) ≡ value_of w (swap t e f)
    value_exchange t e f v q l g h d = go (has t e) refl
      where
        go : (b : Bool) → has t e ≡ b → w.sum (w.sum v (w.worth (cond (not (has t e)) e f))) (w.opposite (w.worth (cond (not (has t e)) f e))) ≡ value_of w (swap t e f)
        go true p = let o : has t f ≡ false = other true (has t e) (has t f) p d in
            let z = value_swap t f e l (omega arith) (omega arith) h o p in let y = ap (value_of w) (swap_comm t e f (omega arith) l) in cc
        go false p = let o : has t f ≡ true = other false (has t e) (has t f) p d in
            let z = value_swap t e f (omega arith) h l (omega arith) p o in cc

    pub total_reordered : {xs ys : List ℕ} → Reordered xs ys → total_of w xs ≡ total_of w ys
    unfolding total_of
    total_reordered none = refl
    total_reordered (under {x = x} r) = ap (w.sum (value_of w x)) (total_reordered r)
    total_reordered (over {x = x} {y = y} {xs = xs}) = swap_front w.zero w.sum w.opposite G (value_of w x) (value_of w y) (total_of w xs)
    total_reordered (chain p q) = total_reordered p ∙ total_reordered q

    pub total_last : (xs : List ℕ) (t : ℕ) → total_of w (xs ++ (t ∷ [])) ≡ w.sum (total_of w xs) (value_of w t)
    unfolding total_of
    total_last [] t = G.comm (value_of w t) w.zero
    total_last (x ∷ xs) t = ap (w.sum (value_of w x)) (total_last xs t) ∙ sym (G.assoc (value_of w x) (total_of w xs) (value_of w t))

    pub total_single : (t : ℕ) → total_of w (t ∷ []) ≡ value_of w t
    unfolding total_of
    total_single t = G.unit (value_of w t)
