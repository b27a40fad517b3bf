-- The laws of a partition matroid.
use Rattle.std.proofs.Common.{◌≡◌, ℕ, zero, suc, ◌+◌, ◌^◌, ◌<◌, ◌≤◌, true, false, not, ◌&&◌, eqb, ltb, leb, ◌⊎◌, ◌↔◌, sym, ap, ◌∙◌, subst, inl, inr, arith, pow_pos}
use native.Mathlib.Decide.{ℕ_discrete}
use lib.Bits.{bit_or}
use Rattle.std.proofs.lemmas.Bool.Decides.{nat_tests}
use Rattle.std.proofs.lemmas.Bool.{cases_lt}
use Rattle.labels.specs.Sets.{has, insert, Subset, card, passing}
use Rattle.labels.proofs.Member.{has_pos, has_none, members}
use Rattle.labels.proofs.Card.{ext, within_back, card_zero, card_subset, card_insert, more}
use Rattle.labels.proofs.Find.{no_label_tells, no_label_passes}
use Rattle.labels.proofs.Parts.{card_apart, insert_below, subset_below}
use Rattle.labels.proofs.Passing.{has_passing}
use Rattle.matroid_laws.specs.Matroids.{IsMatroid}
use Rattle.partition_laws.specs.Partition.{part_in, partition, WithinLimits}

module _ (n : ℕ) (class_of : ℕ → ℕ) where
  -- the labels of s in none of the classes 1..j
  elsewhere : ℕ → ℕ → ℕ
  elsewhere s j = passing (λ e. has s e && not (leb 1 (class_of e) && leb (class_of e) j)) n

  has_part : (s i e : ℕ) → has (part_in n class_of s i) e ≡ ((leb 1 e && leb e n) && (has s e && eqb (class_of e) i))
  has_part s i e = has_passing (λ e. has s e && eqb (class_of e) i) n e

  has_elsewhere : (s j e : ℕ) → has (elsewhere s j) e ≡ ((leb 1 e && leb e n) && (has s e && not (leb 1 (class_of e) && leb (class_of e) j)))
  unfolding elsewhere
  has_elsewhere s j e = has_passing (λ e. has s e && not (leb 1 (class_of e) && leb (class_of e) j)) n e

  elsewhere_all : (s : ℕ) → s < 2 ^ n → elsewhere s 0 ≡ s
  elsewhere_all s h = ext _ _ (λ e. let p = has_elsewhere s 0 e in let q = within_back n s e h in let r = has_pos s e in grind (arith, nat_tests))

  elsewhere_step : (s j : ℕ) → card (elsewhere s j) ≡ card (part_in n class_of s (suc j)) + card (elsewhere s (suc j))
  elsewhere_step s j =
      let z : elsewhere s j ≡ bit_or (part_in n class_of s (suc j)) (elsewhere s (suc j)) = ext _ _ (λ e.
      let p = has_elsewhere s j e in let q = has_part s (suc j) e in let r = has_elsewhere s (suc j) e in grind (arith, members)) in
      ap card z ∙ card_apart (part_in n class_of s (suc j)) (elsewhere s (suc j)) (λ e m.
      let q = has_part s (suc j) e in let r = has_elsewhere s (suc j) e in grind (arith, nat_tests))

  part_subset : (s t i : ℕ) → Subset s t → Subset (part_in n class_of s i) (part_in n class_of t i)
  part_subset s t i p e m = let x = p e in let a = has_part s i e in let b = has_part t i e in grind (arith, nat_tests)

  part_none : (i : ℕ) → part_in n class_of 0 i ≡ 0
  part_none i = ext _ _ (λ e. let a = has_part 0 i e in let b = has_none e in grind (arith, nat_tests))

  -- one label more, in class i or in another
  part_same : (s e i : ℕ) → 1 ≤ e → e ≤ n → class_of e ≡ i → part_in n class_of (insert s e) i ≡ insert (part_in n class_of s i) e
  part_same s e i l g h = ext _ _ (λ f. let a = has_part (insert s e) i f in let b = has_part s i f in grind (arith, members))

  part_other : (s e i : ℕ) → 1 ≤ e → (class_of e ≡ i → ⊥) → part_in n class_of (insert s e) i ≡ part_in n class_of s i
  part_other s e i l h = ext _ _ (λ f. let a = has_part (insert s e) i f in let b = has_part s i f in grind (arith, members))

  new_in : (s t i e : ℕ) → has (part_in n class_of t i) e ≡ true → has (part_in n class_of s i) e ≡ false
      → (1 ≤ e) × (e ≤ n) × (class_of e ≡ i) × (has t e ≡ true) × (has s e ≡ false)
  new_in s t i e m o = let a = has_part t i e in let b = has_part s i e in
      (grind (arith, nat_tests), grind (arith, nat_tests), grind (arith, nat_tests), grind (arith, nat_tests), grind (arith, nat_tests))

  new_elsewhere : (s t j e : ℕ) → has (elsewhere t j) e ≡ true → has (elsewhere s j) e ≡ false
      → (1 ≤ e) × (e ≤ n) × ((i : ℕ) → 1 ≤ i → i ≤ j → class_of e ≡ i → ⊥) × (has t e ≡ true) × (has s e ≡ false)
  new_elsewhere s t j e m o = let a = has_elsewhere t j e in let b = has_elsewhere s j e in
      (grind (arith, nat_tests), grind (arith, nat_tests), λ i l g z. grind (arith, nat_tests), grind (arith, nat_tests), grind (arith, nat_tests))

  -- where t has more labels than s, it has more in one of the classes 1..j, or more in none of them
  more_somewhere : (s t : ℕ) → s < 2 ^ n → t < 2 ^ n → card s < card t → (j : ℕ)
      → ((i : ℕ) × (1 ≤ i) × (i ≤ j) × (card (part_in n class_of s i) < card (part_in n class_of t i))) ⊎ (card (elsewhere s j) < card (elsewhere t j))
  more_somewhere s t p q h zero = inr (omega (arith, ap card (elsewhere_all s p), ap card (elsewhere_all t q)))
  more_somewhere s t p q h (suc j) = go (more_somewhere s t p q h j) (cases_lt (card (part_in n class_of s (suc j))) (card (part_in n class_of t (suc j))))
    where
      go : ((i : ℕ) × (1 ≤ i) × (i ≤ j) × (card (part_in n class_of s i) < card (part_in n class_of t i))) ⊎ (card (elsewhere s j) < card (elsewhere t j))
          → (card (part_in n class_of s (suc j)) < card (part_in n class_of t (suc j))) ⊎ (card (part_in n class_of t (suc j)) ≤ card (part_in n class_of s (suc j)))
          → ((i : ℕ) × (1 ≤ i) × (i ≤ suc j) × (card (part_in n class_of s i) < card (part_in n class_of t i))) ⊎ (card (elsewhere s (suc j)) < card (elsewhere t (suc j)))
      go (inl (i, l, g, k)) c = inl (i, l, omega arith, k)
      go (inr k) (inl c) = inl (suc j, omega arith, omega arith, c)
      go (inr k) (inr c) = inr (omega (arith, elsewhere_step s j, elsewhere_step t j))

  module _ (m : ℕ) (most : ℕ → ℕ) where
    means : (s : ℕ) → partition n m class_of most s ≡ true → WithinLimits n m class_of most s
    means s h = record {
      inside = grind (arith, nat_tests);
      few = λ i l g. let p = no_label_tells (λ i. ltb (most i) (card (part_in n class_of s i))) m (grind arith) i l g in grind (arith, nat_tests);
    }

    meant : (s : ℕ) → WithinLimits n m class_of most s → partition n m class_of most s ≡ true
    meant s F =
        let p = no_label_passes (λ i. ltb (most i) (card (part_in n class_of s i))) m (λ i l g. let q = F.few i l g in grind (arith, nat_tests)) in
        let q = F.inside in grind (arith, nat_tests)

    grow : (s t : ℕ) → WithinLimits n m class_of most s → WithinLimits n m class_of most t → card s < card t
        → (e : ℕ) × (has t e ≡ true) × (has s e ≡ false) × WithinLimits n m class_of most (insert s e)
    grow s t S T h = go (more_somewhere s t S.inside T.inside h m)
      where
        go : ((i : ℕ) × (1 ≤ i) × (i ≤ m) × (card (part_in n class_of s i) < card (part_in n class_of t i))) ⊎ (card (elsewhere s m) < card (elsewhere t m))
            → (e : ℕ) × (has t e ≡ true) × (has s e ≡ false) × WithinLimits n m class_of most (insert s e)
        go (inl (i, l, g, k)) = found (more (part_in n class_of s i) (part_in n class_of t i) k)
          where
            found : (e : ℕ) × (has (part_in n class_of t i) e ≡ true) × (has (part_in n class_of s i) e ≡ false)
                → (e : ℕ) × (has t e ≡ true) × (has s e ≡ false) × WithinLimits n m class_of most (insert s e)
            found (e, x, y) = let r = new_in s t i e x y in (
              e,
              r.3,
              r.4,
              record {
                inside = insert_below n s e S.inside r.0 r.1;
                few = λ j a b. limits j a b (ℕ_discrete (class_of e) j);
              },
            )
              where
                limits : (j : ℕ) → 1 ≤ j → j ≤ m → Dec (class_of e ≡ j) → card (part_in n class_of (insert s e) j) ≤ most j
                limits j a b (no z) = let r = new_in s t i e x y in omega (arith, ap card (part_other s e j r.0 z), S.few j a b)
                limits j a b (yes z) = let r = new_in s t i e x y in let same : j ≡ i = sym z ∙ r.2 in
                    subst (λ (q : ℕ). card (part_in n class_of (insert s e) q) ≤ most q) (sym same)
                    (omega (arith, ap card (part_same s e i r.0 r.1 r.2), card_insert (part_in n class_of s i) e r.0 y, T.few i l g))
        go (inr k) = found (more (elsewhere s m) (elsewhere t m) k)
          where
            found : (e : ℕ) × (has (elsewhere t m) e ≡ true) × (has (elsewhere s m) e ≡ false)
                → (e : ℕ) × (has t e ≡ true) × (has s e ≡ false) × WithinLimits n m class_of most (insert s e)
            found (e, x, y) = let r = new_elsewhere s t m e x y in (
              e,
              r.3,
              r.4,
              record {
                inside = insert_below n s e S.inside r.0 r.1;
                few = λ j a b. omega (arith, ap card (part_other s e j r.0 (r.2 j a b)), S.few j a b);
              },
            )

pub partition_means : (n m : ℕ) (class_of most : ℕ → ℕ) (s : ℕ) → (partition n m class_of most s ≡ true) ↔ WithinLimits n m class_of most s
partition_means n m class_of most s = (means n class_of m most s, meant n class_of m most s)

pub partition_is : (n m : ℕ) (class_of most : ℕ → ℕ) → IsMatroid n (partition n m class_of most)
partition_is n m class_of most = record {
  inside = λ s h. (means n class_of m most s h).inside;
  empty = meant n class_of m most 0 (record { inside = pow_pos n; few = λ i l g. omega (arith, card_zero, ap card (part_none n class_of i)) });
  hereditary = λ s t p h. let T = means n class_of m most t h in meant n class_of m most s (record {
    inside = subset_below n s t p T.inside;
    few = λ i l g. omega (arith, card_subset _ _ (part_subset n class_of s t i p), T.few i l g);
  });
  augments = λ s t a b h.
      let r = grow n class_of m most s t (means n class_of m most s a) (means n class_of m most t b) h in
      (r.0, r.1, r.2, meant n class_of m most (insert s r.0) r.3);
}
