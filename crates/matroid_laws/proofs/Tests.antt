-- The test for a base; every is-independent set lies in a base; the list of all bases.
use Rattle.std.proofs.Common.{◌≡◌, ℕ, zero, suc, ◌+◌, ◌≤◌, Bool, true, false, not, ◌&&◌, ◌⊎◌, inl, inr, arith}
use lib.Count.{ones-le}
use Rattle.labels.specs.Sets.{has, insert, Subset, card}
use Rattle.labels.specs.Families.{In, Once}
use Rattle.labels.proofs.Member.{has_insert}
use Rattle.labels.proofs.Card.{card_insert}
use Rattle.labels.proofs.Find.{find, no_label_tells, no_label_passes}
use Rattle.labels.proofs.Listed.{in_family, family_in, once_family}
use Rattle.matroid_laws.specs.Matroids.{IsMatroid, Base, is_base, bases}

module _ (n : ℕ) (independent : ℕ → Bool) where
  pub base_tells : (b : ℕ) → is_base n independent b ≡ true → Base n independent b
  base_tells b h = record {
    is_independent = grind arith;
    full = λ e l g o. let p = no_label_tells (λ e. not (has b e) && independent (insert b e)) n (grind arith) e l g in grind arith;
  }

  pub base_passes : (b : ℕ) → Base n independent b → is_base n independent b ≡ true
  base_passes b B =
      let p = B.is_independent in
      let q = no_label_passes (λ e. not (has b e) && independent (insert b e)) n (λ e l g. let r = B.full e l g in grind arith) in grind arith

  module _ (M : IsMatroid n independent) where
    -- one label more, or a base
    step : (s : ℕ) → independent s ≡ true → ((e : ℕ) × (1 ≤ e) × (has s e ≡ false) × (independent (insert s e) ≡ true)) ⊎ Base n independent s
    step s a = go (find (λ e. not (has s e) && independent (insert s e)) n)
      where
        go : ((e : ℕ) × (1 ≤ e) × (e ≤ n) × ((not (has s e) && independent (insert s e)) ≡ true)) ⊎ ((e : ℕ) → 1 ≤ e → e ≤ n → (not (has s e) && independent (insert s e)) ≡ false)
            → ((e : ℕ) × (1 ≤ e) × (has s e ≡ false) × (independent (insert s e) ≡ true)) ⊎ Base n independent s
        go (inr f) = inr (record { is_independent = a; full = λ e l g o. let p = f e l g in grind arith })
        go (inl (e, l, g, t)) = inl (e, l, grind arith, grind arith)

    -- an is-independent set with at least n - k members lies in a base
    lies : (k s : ℕ) → independent s ≡ true → n ≤ card s + k → (b : ℕ) × Subset s b × Base n independent b
    lies zero s a h = go (step s a)
      where
        go : ((e : ℕ) × (1 ≤ e) × (has s e ≡ false) × (independent (insert s e) ≡ true)) ⊎ Base n independent s → (b : ℕ) × Subset s b × Base n independent b
        go (inr B) = (s, λ e m. m, B)
        go (inl (e, l, o, x)) = absurd (omega (arith, card_insert s e l o, ones-le n (insert s e) (M.inside (insert s e) x)))
    lies (suc k) s a h = go (step s a) (lies k)
      where
        go : ((e : ℕ) × (1 ≤ e) × (has s e ≡ false) × (independent (insert s e) ≡ true)) ⊎ Base n independent s
            → ((s' : ℕ) → independent s' ≡ true → n ≤ card s' + k → (b : ℕ) × Subset s' b × Base n independent b) → (b : ℕ) × Subset s b × Base n independent b
        go (inr B) ih = (s, λ e m. m, B)
        go (inl (e, l, o, x)) ih =
            let r = ih (insert s e) x (omega (arith, card_insert s e l o)) in
            (r.0, λ f m. r.1 f (let p = has_insert s e f l in grind arith), r.2)

    pub in_base : (s : ℕ) → independent s ≡ true → (b : ℕ) × Subset s b × Base n independent b
    in_base s a = lies n s a (omega arith)

    pub some_base : (b : ℕ) × Base n independent b
    some_base = let r = in_base 0 M.empty in (r.0, r.2)

    -- the list has the bases, each once
    pub bases_have : (b : ℕ) → Base n independent b → In b (bases n independent)
    bases_have b B = in_family n (is_base n independent) b (M.inside b B.is_independent) (base_passes b B)

    pub bases_are : (b : ℕ) → In b (bases n independent) → Base n independent b
    bases_are b i = base_tells b (family_in n (is_base n independent) b i).1

    pub bases_once : Once (bases n independent)
    bases_once = once_family n (is_base n independent)
