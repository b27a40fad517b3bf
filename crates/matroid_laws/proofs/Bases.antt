-- The bases of a matroid: one size, and the two exchanges.
use Rattle.std.proofs.Common.{◌≡◌, ℕ, zero, suc, ◌+◌, ◌-◌, ◌<◌, ◌≤◌, Bool, true, false, ◌⊎◌, sym, ap, ◌∙◌, inl, inr, arith}
use lib.Bits.{bit_and, bit_or}
use Rattle.std.proofs.lemmas.Bool.{both_ways, cases_lt, false_from_ne_true}
use Rattle.labels.specs.Sets.{has, insert, remove, Subset, card}
use Rattle.labels.proofs.Member.{has_pos, members}
use Rattle.labels.proofs.Card.{within_back, card_insert, card_remove, subset_eq, more}
use Rattle.matroid_laws.specs.Matroids.{IsMatroid, Base}

-- What is of sets alone stands here, where no matroid is in reach: `grind` would go through its laws too.
remove_subset : (t d : ℕ) → Subset (remove t d) t
remove_subset t d e m = grind (arith, members)

not_remove : (t b d f : ℕ) → has t d ≡ true → has b d ≡ false → has b f ≡ true → has (remove t d) f ≡ false → has t f ≡ false
not_remove t b d f i o x y = grind (arith, members)

start_subset : (t b d : ℕ) → has b d ≡ true → Subset (insert (bit_and t b) d) b
start_subset t b d i e m = grind (arith, members)

insert_subsets : (s t u e : ℕ) → has t e ≡ true → Subset (insert s e) u → Subset u (bit_or (insert s e) t) → Subset s u × Subset u (bit_or s t)
insert_subsets s t u e x p q = (λ f m. p f (grind (arith, members)), λ f m. grind (arith, members))

out_one : (t b d u f : ℕ) → has b d ≡ true → Subset (insert (bit_and t b) d) u → Subset u (bit_or (insert (bit_and t b) d) t) → has (insert t d) f ≡ true → has u f ≡ false
    → Subset u (remove (insert t d) f) × (has t f ≡ true) × (has b f ≡ false)
out_one t b d u f i p q x y = let d1 = has_pos b d i in (λ e m. grind (arith, members), grind (arith, members), grind (arith, members))

module _ (n : ℕ) (independent : ℕ → Bool) (M : IsMatroid n independent) where
  -- an independent set of which no label can join another has no more labels than that
  pub no_larger : (b s : ℕ) → independent b ≡ true → independent s ≡ true
      → ((e : ℕ) → 1 ≤ e → e ≤ n → has s e ≡ true → has b e ≡ false → independent (insert b e) ≡ false) → card s ≤ card b
  no_larger b s i a full = go (cases_lt (card b) (card s))
    where
      go : (card b < card s) ⊎ (card s ≤ card b) → card s ≤ card b
      go (inr h) = h
      go (inl h) =
          let r = M.augments b s i a h in
          absurd (both_ways _ (full r.0 (has_pos s r.0 r.1) (within_back n s r.0 (M.inside s a) r.1) r.1 r.2) r.3)

  -- a base is a largest independent set
  pub largest : (b s : ℕ) → Base n independent b → independent s ≡ true → card s ≤ card b
  largest b s B a = no_larger b s B.is_independent a (λ e l g _ o. B.full e l g o)

  pub same_card : (a b : ℕ) → Base n independent a → Base n independent b → card a ≡ card b
  same_card a b A B = omega (arith, largest a b A B.is_independent, largest b a B A.is_independent)

  -- an independent set of a base's size is a base
  pub base_by_card : (b s : ℕ) → Base n independent b → independent s ≡ true → card s ≡ card b → Base n independent s
  base_by_card b s B a same = record {
    is_independent = a;
    full = λ e l h out. false_from_ne_true _ (λ i. omega (arith, same, largest b (insert s e) B i, card_insert s e l out));
  }

  -- T - d + f
  pub exchange : (t b d : ℕ) → Base n independent t → Base n independent b → has t d ≡ true → has b d ≡ false
      → (f : ℕ) × (has b f ≡ true) × (has t f ≡ false) × Base n independent (insert (remove t d) f)
  exchange t b d T B i o =
      let s = remove t d in
      let small : suc (card s) ≡ card t = card_remove t d i in
      let a : independent s ≡ true = M.hereditary s t (remove_subset t d) T.is_independent in
      let r = M.augments s b a B.is_independent (omega (arith, same_card t b T B)) in
      let f = r.0 in let x = r.1 in let y = r.2 in
      (f, x, not_remove t b d f i o x y, base_by_card t (insert s f) T r.3 (omega (arith, card_insert s f (has_pos b f x) y)))

  -- an independent set can be filled up from another to its size
  pub filled : (k s t : ℕ) → independent s ≡ true → independent t ≡ true → card s + k ≡ card t
      → (u : ℕ) × Subset s u × Subset u (bit_or s t) × (independent u ≡ true) × (card u ≡ card t)
  filled zero s t a b h = (s, λ e m. m, λ e m. grind (arith, members), a, omega arith)
  filled (suc k) s t a b h = go (M.augments s t a b (omega arith)) (λ s' a' h'. filled k s' t a' b h')
    where
      go : (e : ℕ) × (has t e ≡ true) × (has s e ≡ false) × (independent (insert s e) ≡ true)
          → ((s' : ℕ) → independent s' ≡ true → card s' + k ≡ card t → (u : ℕ) × Subset s' u × Subset u (bit_or s' t) × (independent u ≡ true) × (card u ≡ card t))
          → (u : ℕ) × Subset s u × Subset u (bit_or s t) × (independent u ≡ true) × (card u ≡ card t)
      go (e, x, y, z) ih = join e x y (ih (insert s e) z (omega (arith, card_insert s e (has_pos t e x) y)))
        where
          join : (e : ℕ) → has t e ≡ true → has s e ≡ false → (u : ℕ) × Subset (insert s e) u × Subset u (bit_or (insert s e) t) × (independent u ≡ true) × (card u ≡ card t)
              → (u : ℕ) × Subset s u × Subset u (bit_or s t) × (independent u ≡ true) × (card u ≡ card t)
          join e x y (u, p, q, r, w) =
              let v = insert_subsets s t u e x p q in (u, v.0, v.1, r, w)

  -- T + d - f
  pub exchange_back : (t b d : ℕ) → Base n independent t → Base n independent b → has b d ≡ true → has t d ≡ false
      → (f : ℕ) × (has t f ≡ true) × (has b f ≡ false) × Base n independent (remove (insert t d) f)
  exchange_back t b d T B i o = go (filled (card t - card s) s t start T.is_independent (omega (arith, largest t s T start)))
    where
      d1 : 1 ≤ d
      d1 = has_pos b d i

      s : ℕ
      s = insert (bit_and t b) d

      start : independent s ≡ true
      start = M.hereditary s b (start_subset t b d i) B.is_independent

      found : (u f : ℕ) → Subset s u → Subset u (bit_or s t) → independent u ≡ true → card u ≡ card t → has (insert t d) f ≡ true → has u f ≡ false
          → (f : ℕ) × (has t f ≡ true) × (has b f ≡ false) × Base n independent (remove (insert t d) f)
      found u f p q a w x y =
          let v = out_one t b d u f i p q x y in
          let same = subset_eq u (remove (insert t d) f) v.0 (omega (arith, card_remove (insert t d) f x, card_insert t d d1 o)) in
          (f, v.1, v.2, base_by_card t (remove (insert t d) f) T (ap independent (sym same) ∙ a) (ap card (sym same) ∙ w))

      go : (u : ℕ) × Subset s u × Subset u (bit_or s t) × (independent u ≡ true) × (card u ≡ card t)
          → (f : ℕ) × (has t f ≡ true) × (has b f ≡ false) × Base n independent (remove (insert t d) f)
      go (u, p, q, a, w) = let m = more u (insert t d) (omega (arith, card_insert t d d1 o)) in found u m.0 p q a w m.1 m.2
