-- Binary matroids meet the laws.
use Rattle.std.proofs.Common.{◌≡◌, ℕ, ◌^◌, ◌<◌, ◌≤◌, Bool, true, false, not, ◌&&◌, eqb, ltb, ◌⊎◌, sym, refl, ap, ◌∙◌, inl, inr, arith, pow_pos}
use native.Mathlib.Decide.{ℕ_discrete}
use Rattle.std.proofs.lemmas.Bool.{and_from, and_parts, both_ways, cases_Bool, eq-eqb, eqb-true, false_from_ne_true, lt-ltb, not-true, ltb-true}
use Rattle.labels.specs.Sets.{has, insert, remove, single, Subset, is_subset, card}
use Rattle.labels.proofs.Member.{has_pos}
use Rattle.labels.proofs.Card.{within_back}
use Rattle.labels.proofs.Find.{find, no_label_tells, no_label_passes}
use Rattle.labels.proofs.Parts.{insert_below, subset_below, subset_none}
use Rattle.labels.proofs.Swap.{subset_tells, subset_passes}
use Rattle.matroid_laws.specs.Matroids.{IsMatroid}
use Rattle.binary_laws.specs.Binary.{xor_sum, binary, LinearlyIndependent}
use Rattle.binary_laws.proofs.Basics.{subset_le, no_label_fails, single_subset, remove_subset, out_subset}
use Rattle.binary_laws.proofs.Sums.{xor_sum_empty, xor_sum_single, xor_sum_remove, spread}
use Rattle.binary_laws.proofs.Dependent.{dependent}

barred : (h a b : Bool) → h ≡ true → (h && (not a && b)) ≡ false → (a ≡ true) ⊎ ((a ≡ false) × (b ≡ false))
barred h true b i p = inl refl
barred h false b i p = inr (refl, grind arith)

module _ (n : ℕ) (v : ℕ → ℕ) where
  pub means : (s : ℕ) → binary n v s ≡ true → LinearlyIndependent n v s
  means s h = record { inside = ltb-true s (2 ^ n) (and_parts _ _ h).0; free = λ t p z. go t p z (ℕ_discrete t 0) }
    where
      none : (t : ℕ) → 1 ≤ t → t ≤ s → (is_subset t s && eqb (xor_sum v n t) 0) ≡ false
      none = no_label_tells (λ t. is_subset t s && eqb (xor_sum v n t) 0) s (and_parts (ltb s (2 ^ n)) _ h).1

      go : (t : ℕ) → Subset t s → xor_sum v n t ≡ 0 → Dec (t ≡ 0) → t ≡ 0
      go t p z (yes e) = e
      go t p z (no e) = absurd (both_ways _ (none t (omega arith) (subset_le t s p)) (and_from _ _ (subset_passes t s p) (eq-eqb (xor_sum v n t) 0 z)))

  pub meant : (s : ℕ) → LinearlyIndependent n v s → binary n v s ≡ true
  meant s F = and_from _ _ (lt-ltb s (2 ^ n) F.inside) (no_label_passes (λ t. is_subset t s && eqb (xor_sum v n t) 0) s (λ t l g. false_from_ne_true _ (λ i. some t l (and_parts _ _ i))))
    where
      some : (t : ℕ) → 1 ≤ t → (is_subset t s ≡ true) × (eqb (xor_sum v n t) 0 ≡ true) → ⊥
      some t l (p, z) = omega (arith, l, F.free t (subset_tells t s p) (eqb-true (xor_sum v n t) 0 z))

  pub part_independent : (s t : ℕ) → Subset s t → LinearlyIndependent n v t → LinearlyIndependent n v s
  part_independent s t p T = record {
    inside = subset_below n s t p T.inside;
    free = λ u q z. T.free u (λ e m. p e (q e m)) z;
  }

  -- e cannot join s: then its word is made of labels of s
  made : (s e : ℕ) → LinearlyIndependent n v s → 1 ≤ e → e ≤ n → (has s e ≡ true) ⊎ ((has s e ≡ false) × (binary n v (insert s e) ≡ false)) → (c : ℕ) × Subset c s × (xor_sum v n c ≡ v e)
  made s e F l g (inl i) = (single e, single_subset s e i, xor_sum_single v n e l g)
  made s e F l g (inr (o, h)) =
      from (no_label_fails (λ t. is_subset t (insert s e) && eqb (xor_sum v n t) 0) (insert s e) (false_from_ne_true _ (λ q. both_ways _ h (and_from _ _ (lt-ltb (insert s e) (2 ^ n) (insert_below n s e F.inside l g)) q))))
    where
      from : (t : ℕ) × (1 ≤ t) × (t ≤ insert s e) × ((is_subset t (insert s e) && eqb (xor_sum v n t) 0) ≡ true) → (c : ℕ) × Subset c s × (xor_sum v n c ≡ v e)
      from (t, x, y, z) = last (cases_Bool (has t e))
        where
          p : Subset t (insert s e)
          p = subset_tells t (insert s e) (and_parts (is_subset t (insert s e)) (eqb (xor_sum v n t) 0) z).0

          w : xor_sum v n t ≡ 0
          w = eqb-true (xor_sum v n t) 0 (and_parts (is_subset t (insert s e)) (eqb (xor_sum v n t) 0) z).1

          last : (has t e ≡ true) ⊎ (has t e ≡ false) → (c : ℕ) × Subset c s × (xor_sum v n c ≡ v e)
          last (inr u) = absurd (omega (arith, F.free t (out_subset t s e l p u) w))
          last (inl u) = (remove t e, remove_subset t s e l p, xor_sum_remove v n t e l g u w)

  grow : (s t : ℕ) → LinearlyIndependent n v s → LinearlyIndependent n v t → card s < card t → (e : ℕ) × (has t e ≡ true) × (has s e ≡ false) × (binary n v (insert s e) ≡ true)
  grow s t S T h = go (find (λ e. has t e && (not (has s e) && binary n v (insert s e))) n)
    where
      stuck : ((e : ℕ) → 1 ≤ e → e ≤ n → (has t e && (not (has s e) && binary n v (insert s e))) ≡ false) → ⊥
      stuck none = end (dependent n (card s) s t c refl h T.inside (λ e i. ((choice e (cases_Bool (has t e))).1 i).0))
        where
          choice : (e : ℕ) → (has t e ≡ true) ⊎ (has t e ≡ false) → (c : ℕ) × (has t e ≡ true → Subset c s × (xor_sum v n c ≡ v e))
          choice e (inr o) = (0, λ i. absurd (both_ways (has t e) o i))
          choice e (inl i) =
              let l = has_pos t e i in let g = within_back n t e T.inside i in
              let r = made s e S l g (barred (has t e) (has s e) (binary n v (insert s e)) i (none e l g)) in (r.0, λ j. (r.1, r.2))

          c : ℕ → ℕ
          c e = (choice e (cases_Bool (has t e))).0

          end : (u : ℕ) × Subset u t × (u ≡ 0 → ⊥) × (xor_sum c n u ≡ 0) → ⊥
          end (u, p, q, z) = q (T.free u p (
              sym (spread v n c u n (λ e l g m. ((choice e (cases_Bool (has t e))).1 (p e m)).1)) ∙ ap (xor_sum v n) z ∙ xor_sum_empty v n))

      go : ((e : ℕ) × (1 ≤ e) × (e ≤ n) × ((has t e && (not (has s e) && binary n v (insert s e))) ≡ true))
          ⊎ ((e : ℕ) → 1 ≤ e → e ≤ n → (has t e && (not (has s e) && binary n v (insert s e))) ≡ false)
          → (e : ℕ) × (has t e ≡ true) × (has s e ≡ false) × (binary n v (insert s e) ≡ true)
      go (inl (e, l, g, z)) = let p = and_parts _ _ z in let q = and_parts _ _ p.1 in (e, p.0, not-true _ q.0, q.1)
      go (inr none) = absurd (stuck none)

  pub binary_is : IsMatroid n (binary n v)
  binary_is = record {
    inside = λ s h. (means s h).inside;
    empty = meant 0 (record { inside = pow_pos n; free = λ t p z. subset_none t 0 p refl });
    hereditary = λ s t p h. meant s (part_independent s t p (means t h));
    augments = λ s t a b h. grow s t (means s a) (means t b) h;
  }
