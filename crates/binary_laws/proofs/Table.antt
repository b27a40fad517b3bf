-- A table of pivots for a set of labels, and one label more.
use Rattle.std.proofs.Common.{◌≡◌, ℕ, zero, suc, ◌<◌, ◌≤◌, Bool, true, false, cond, ◌⊎◌, List, length, get_or, set, replicate, sym, refl, ap, ◌∙◌, subst, ap₂, inl, inr, arith, length-set, get_or-set_other, get_or-set_same, pow_pos}
use native.Mathlib.Decide.{ℕ_discrete}
use lib.Bits.{bit_xor, xor_self, xor_zero_r}
use Rattle.std.proofs.lemmas.Bool.{both_ways, cases_Bool}
use Rattle.labels.specs.Sets.{has, insert, remove, Subset}
use Rattle.labels.proofs.Member.{has_pos, has_none, members}
use Rattle.labels.proofs.Card.{ext}
use Rattle.labels.proofs.Parts.{insert_below, insert_both, insert_more, subset_none}
use Rattle.binary_laws.specs.Binary.{xor_sum, LinearlyIndependent}
use Rattle.binary_laws.specs.Elimination.{places, pivot, Leading, Echelon, reduced, Grown}
use Rattle.binary_laws.proofs.Basics.{remove_subset, out_subset, insert_some, out_of, insert_is, xor_subset}
use Rattle.binary_laws.proofs.Sums.{linear, xor_sum_empty, xor_sum_remove, xor_sum_insert}
use Rattle.binary_laws.proofs.Reduction.{reduced_sum, reduced_made, reduced_more, reduced_leads}

turn : (w x z : ℕ) → bit_xor (bit_xor (bit_xor w z) (bit_xor x z)) w ≡ x
turn w x z = ext _ _ (λ e. grind (arith, members))

-- p is a table of pivots for the independent labels t
pub record Table (n : ℕ) (v : ℕ → ℕ) (t : ℕ) (p : ℕ → ℕ) : Type 0 where
  pub echelon : Echelon p
  -- each pivot is the sum of some words of t
  pub made : (k : ℕ) → (c : ℕ) × Subset c t × (xor_sum v n c ≡ p k)
  -- each word of t is reduced to 0
  pub gone : (e : ℕ) → has t e ≡ true → reduced p places (v e) ≡ 0
  pub independent : LinearlyIndependent n v t

pub at_start : (n : ℕ) (v p : ℕ → ℕ) → ((k : ℕ) → p k ≡ 0) → Table n v 0 p
at_start n v p f = record {
  echelon = λ k. inl (f k);
  made = λ k. (0, λ e m. m, xor_sum_empty v n ∙ sym (f k));
  gone = λ e m. absurd (both_ways (has 0 e) (has_none e) m);
  independent = record { inside = pow_pos n; free = λ t p z. subset_none t 0 p refl };
}

module _ (n : ℕ) (v : ℕ → ℕ) (t : ℕ) (p : ℕ → ℕ) (P : Table n v t p) (e : ℕ) (l : 1 ≤ e) (g : e ≤ n) (o : has t e ≡ false) where
  -- reduced to 0: t with e is dependent
  pub refuses : reduced p places (v e) ≡ 0 → LinearlyIndependent n v (insert t e) → ⊥
  refuses z F = go (reduced_made p v n t P.made places (v e))
    where
      go : (c : ℕ) × Subset c t × (xor_sum v n c ≡ bit_xor (v e) (reduced p places (v e))) → ⊥
      go (c, q, w) =
          insert_some c e l (F.free (insert c e) (insert_both c t e l q)
          (xor_sum_insert v n c e l g (out_of c t e q o) ∙ ap (λ (x : ℕ). bit_xor x (v e)) (w ∙ ap (bit_xor (v e)) z ∙ xor_zero_r (v e)) ∙ xor_self (v e)))

  -- else what is left, x, is the new pivot at its highest place k
  module _ (x k : ℕ) (same : reduced p places x ≡ reduced p places (v e)) (leads : Leading x k) (b : k ≤ places) (vacant : p k ≡ 0)
      (q : ℕ → ℕ) (new : q k ≡ x) (old : (j : ℕ) → (j ≡ k → ⊥) → q j ≡ p j) where
    on : has (reduced p places x) k ≡ true
    on = reduced_leads p q P.echelon x k vacant leads new old places b

    after : (y : ℕ) → reduced q places y ≡ bit_xor (reduced p places y) (cond (has (reduced p places y) k) (reduced p places x) 0)
    after y = reduced_more p q P.echelon x k vacant leads new old places y (has_pos x k leads.on) b

    all_gone : (f : ℕ) → has (insert t e) f ≡ true → Dec (f ≡ e) → reduced q places (v f) ≡ 0
    all_gone f m (yes z) =
        ap (λ (y : ℕ). reduced q places (v y)) z ∙ after (v e)
        ∙ ap (λ (y : ℕ). bit_xor y (cond (has y k) (reduced p places x) 0)) (sym same)
        ∙ ap (λ (c : Bool). bit_xor (reduced p places x) (cond c (reduced p places x) 0)) on ∙ xor_self (reduced p places x)
    all_gone f m (no z) =
        after (v f) ∙ ap (λ (y : ℕ). bit_xor y (cond (has y k) (reduced p places x) 0)) (P.gone f (insert_is t e f l m z))
        ∙ ap (λ (c : Bool). bit_xor 0 (cond c (reduced p places x) 0)) (has_none k) ∙ xor_zero_r 0

    still_free : (u : ℕ) → Subset u (insert t e) → xor_sum v n u ≡ 0 → (has u e ≡ true) ⊎ (has u e ≡ false) → u ≡ 0
    still_free u r z (inr w) = P.independent.free u (out_subset u t e l r w) z
    still_free u r z (inl w) =
        let none : reduced p places x ≡ 0 =
        same ∙ ap (reduced p places) (sym (xor_sum_remove v n u e l g w z))
        ∙ reduced_sum p v places (remove u e) n (λ f m. P.gone f (remove_subset u t e l r f m)) in
        absurd (both_ways (has (reduced p places x) k) (ap (λ (y : ℕ). has y k) none ∙ has_none k) on)

    pub joins : Table n v (insert t e) q
    joins = record {
      echelon = λ j. shaped j (ℕ_discrete j k);
      made = λ j. mades j (ℕ_discrete j k);
      gone = λ f m. all_gone f m (ℕ_discrete f e);
      independent = record { inside = insert_below n t e P.independent.inside l g; free = λ u r z. still_free u r z (cases_Bool (has u e)) };
    }
      where
        shaped : (j : ℕ) → Dec (j ≡ k) → (q j ≡ 0) ⊎ Leading (q j) j
        shaped j (yes z) = inr (subst (λ (y : ℕ). Leading (q y) y) (sym z) (subst (λ (y : ℕ). Leading y k) (sym new) leads))
        shaped j (no z) = subst (λ (y : ℕ). (y ≡ 0) ⊎ Leading y j) (sym (old j z)) (P.echelon j)

        mades : (j : ℕ) → Dec (j ≡ k) → (c : ℕ) × Subset c (insert t e) × (xor_sum v n c ≡ q j)
        mades j (no z) = let r = P.made j in (r.0, insert_more r.0 t e l r.1, r.2 ∙ sym (old j z))
        mades j (yes z) = go (reduced_made p v n t P.made places (v e)) (reduced_made p v n t P.made places x)
          where
            go : (c : ℕ) × Subset c t × (xor_sum v n c ≡ bit_xor (v e) (reduced p places (v e)))
                → (d : ℕ) × Subset d t × (xor_sum v n d ≡ bit_xor x (reduced p places x))
                → (c : ℕ) × Subset c (insert t e) × (xor_sum v n c ≡ q j)
            go (c, r, w) (d, s, y) = (
              insert (bit_xor c d) e,
              insert_both (bit_xor c d) t e l (xor_subset c d t r s),
              xor_sum_insert v n (bit_xor c d) e l g (out_of (bit_xor c d) t e (xor_subset c d t r s) o)
                  ∙ ap (λ (u : ℕ). bit_xor u (v e)) (linear v n c d ∙ ap₂ bit_xor (w ∙ ap (bit_xor (v e)) (sym same)) y)
                  ∙ turn (v e) x (reduced p places x) ∙ sym new ∙ ap q (sym z),
            )

-- ---- tables as lists

pivot_new : (ps : List ℕ) (k x : ℕ) → k < length ps → pivot (set ps k x) (suc k) ≡ x
unfolding pivot
pivot_new ps k x h = get_or-set_same ps k x 0 h

pivot_old : (ps : List ℕ) (k x j : ℕ) → (j ≡ suc k → ⊥) → pivot (set ps k x) j ≡ pivot ps j
unfolding pivot
pivot_old ps k x zero n = refl
pivot_old ps k x (suc j) n = get_or-set_other ps k j x 0 (λ e. n (ap suc e))

pub pivot_is : (ps : List ℕ) (k : ℕ) → pivot ps (suc k) ≡ get_or ps k 0
unfolding pivot
pivot_is ps k = refl

get_d_blank : (n k : ℕ) → ◌≡◌ {A = ℕ} (get_or (replicate n 0) k 0) 0
get_d_blank zero k = refl
get_d_blank (suc n) zero = refl
get_d_blank (suc n) (suc k) = get_d_blank n k

pivot_blank : (n k : ℕ) → pivot (replicate n 0) k ≡ 0
unfolding pivot
pivot_blank n zero = refl
pivot_blank n (suc k) = get_d_blank n k

pub blank_table : (n : ℕ) (v : ℕ → ℕ) (m : ℕ) → Table n v 0 (pivot (replicate m 0))
blank_table n v m = at_start n v (pivot (replicate m 0)) (pivot_blank m)

pub grown_length : (ps : List ℕ) (w : ℕ) (qs : List ℕ) → Grown ps w qs → length qs ≡ length ps
grown_length ps w qs G = ap length G.stored ∙ length-set ps G.index G.left

pub grown_table : (n : ℕ) (v : ℕ → ℕ) (t : ℕ) (ps : List ℕ) → Table n v t (pivot ps) → length ps ≤ places → (e : ℕ) → 1 ≤ e → e ≤ n → has t e ≡ false
    → (qs : List ℕ) → Grown ps (v e) qs → Table n v (insert t e) (pivot qs)
grown_table n v t ps P few e l g o qs G =
    subst (λ (rs : List ℕ). Table n v (insert t e) (pivot rs)) (sym G.stored)
    (joins n v t (pivot ps) P e l g o G.left (suc G.index) G.same G.leads (omega (arith, G.low, few)) (pivot_is ps G.index ∙ G.vacant)
    (pivot (set ps G.index G.left)) (pivot_new ps G.index G.left G.low) (pivot_old ps G.index G.left))
