-- An advance, seen from what it did.
use Rattle.std.proofs.Common.{◌≡◌, ℕ, zero, suc, ◌-◌, ◌<◌, ◌≤◌, Bool, true, false, cond, not, ◌&&◌, eqb, ◌⊎◌, Some, None, sym, refl, ap, ◌∙◌, subst, inl, inr, arith}
use Rattle.std.proofs.lemmas.Bool.Decides.{nat_tests}
use Rattle.std.proofs.lemmas.Bool.{true≢false}
use Rattle.labels.specs.Sets.{has, differs, insert, remove, swap, TopDifference, first_passing, passing}
use Rattle.labels.proofs.Member.{has_none, has_pos}
use Rattle.labels.proofs.Card.{some, within_back}
use Rattle.labels.proofs.Swap.{swap_is}
use Rattle.matroid_laws.specs.Matroids.{Base, is_base}
use Rattle.matroid_laws.proofs.Bases.{exchange, exchange_back}
use Rattle.matroid_laws.proofs.Tests.{base_passes, base_tells}
use Rattle.walk_laws.specs.Law.{Ahead}
use Rattle.labels.proofs.Passing.{FirstPassing, first_passing_is, has_passing}
use Rattle.walk_laws.specs.Settings.{Setting, Sound, candidates, fits}
use Rattle.walk_laws.specs.Steps.{State, after, exchange_at, offers, step, step_at}
use Rattle.walk_laws.proofs.Ahead.{below_top, swap_in, top_pos}

-- tests of numbers and cond, with nothing in reach
offered : (b : Bool) (c : ℕ) → not (eqb (cond b c 0) 0) ≡ true → (b ≡ true) × (0 < c)
offered true c h = (refl, grind (arith, nat_tests))
offered false c h = absurd (grind (arith, nat_tests))

not_offered : (b : Bool) (c : ℕ) → not (eqb (cond b c 0) 0) ≡ false → b ≡ true → c ≡ 0
not_offered true c h i = grind (arith, nat_tests)
not_offered false c h i = absurd (grind (arith, nat_tests))

pub fits_tells : (x y z : Bool) → (differs x y && z) ≡ true → (x ≡ not y) × (z ≡ true)
fits_tells true y z h = (grind arith, grind arith)
fits_tells false y z h = (grind arith, grind arith)

pub fits_passes : (x y z : Bool) → x ≡ not y → z ≡ true → (differs x y && z) ≡ true
fits_passes true y z p q = grind arith
fits_passes false y z p q = grind arith

passing_tells : (t : ℕ → Bool) (e f : ℕ) → has (passing t (e - 1)) f ≡ true → (1 ≤ f) × (f < e) × (t f ≡ true)
passing_tells t e f h = let p = has_passing t (e - 1) f in (grind (arith, nat_tests), grind (arith, nat_tests), grind (arith, nat_tests))

passing_passes : (t : ℕ → Bool) (e f : ℕ) → 1 ≤ f → f < e → t f ≡ true → has (passing t (e - 1)) f ≡ true
passing_passes t e f l g h = let p = has_passing t (e - 1) f in grind (arith, nat_tests)

pub none_in : (c f : ℕ) → c ≡ 0 → has c f ≡ false
none_in c f z = ap (λ (x : ℕ). has x f) z ∙ has_none f

clash : (x a b : Bool) → b ≡ not a → a ≡ x → b ≡ x → ⊥
clash x a b p q r = grind arith

module _ {R V : Type 0} (w : Setting R V) where
  -- a candidate, and the base that it leads to
  abbrev pub Candidate : ℕ → ℕ → ℕ → Type 0
  Candidate t e f = (1 ≤ f) × (f < e) × (has t e ≡ not (has t f)) × Base w.n w.independent (swap t e f)

  pub candidate_tells : (t e f : ℕ) → has (candidates w t e) f ≡ true → Candidate t e f
  unfolding candidates
  candidate_tells t e f h =
      let p = passing_tells (fits w t e) e f h in
      let q = fits_tells (has t e) (has t f) (is_base w.n w.independent (swap t e f)) p.2 in
      (p.0, p.1, q.0, base_tells w.n w.independent (swap t e f) q.1)

  pub candidate_passes : (t e f : ℕ) → 1 ≤ f → f < e → has t e ≡ not (has t f) → Base w.n w.independent (swap t e f) → has (candidates w t e) f ≡ true
  unfolding candidates
  candidate_passes t e f l g d B =
      passing_passes (fits w t e) e f l g (fits_passes (has t e) (has t f) (is_base w.n w.independent (swap t e f)) d (base_passes w.n w.independent (swap t e f) B))

  -- no open label up to m has a candidate
  abbrev pub Still : State R V → (ℕ → Type 0) → Type 0
  Still s P = (d : ℕ) → P d → has s.active d ≡ true → (f : ℕ) → has (candidates w s.present d) f ≡ false

  pub record Moved (s : State R V) (e : ℕ) : Type 0 where
    pub does : step w s ≡ (Some (exchange_at w s e (candidates w s.present e)), after w s e (candidates w s.present e))
    pub within : e ≤ w.n
    pub active : has s.active e ≡ true
    pub chosen : has (candidates w s.present e) (w.choice s.tie e (candidates w s.present e)) ≡ true
    pub lowest : Still s (λ d. d < e)

  -- what an advance finds: no open label has a candidate, or it moves at the lowest that has one
  abbrev pub Seen : State R V → Type 0
  Seen s = ((step w s ≡ (None, s)) × Still s (λ d. (1 ≤ d) × (d ≤ w.n))) ⊎ ((e : ℕ) × Moved s e)

  module _ (W : Sound w) where
    pub step_view : (s : State R V) → Seen s
    unfolding step
    step_view s = go (first_passing (λ e. not (eqb (offers w s e) 0)) w.n) refl (first_passing_is (λ e. not (eqb (offers w s e) 0)) w.n)
      where
        go : (e : ℕ) → first_passing (λ e. not (eqb (offers w s e) 0)) w.n ≡ e → FirstPassing (λ e. not (eqb (offers w s e) 0)) w.n e → Seen s
        go zero q (inl (z, h)) = inl (ap (step_at w s) q, λ d k i f. none_in _ f (not_offered _ _ (h d k.0 k.1) i))
        go zero q (inr r) = absurd (omega arith)
        go (suc k) q (inl (z, h)) = absurd (omega arith)
        go (suc k) q (inr (l, g, p, h)) = found (offered (has s.active (suc k)) (candidates w s.present (suc k)) p)
          where
            found : (has s.active (suc k) ≡ true) × (0 < candidates w s.present (suc k)) → Seen s
            found (i, pos) =
                let m = some (candidates w s.present (suc k)) pos in
                let c = candidate_tells s.present (suc k) m.0 m.1 in
                inr (
                  suc k,
                  record {
                    does = ap (step_at w s) q
                        ∙ ap (λ (c : ℕ). (Some (exchange_at w s (suc k) c), after w s (suc k) c)) (ap (λ (b : Bool). cond b (candidates w s.present (suc k)) 0) i);
                    within = g;
                    active = i;
                    chosen = (W.ties.picks s.tie (suc k) (candidates w s.present (suc k)) m.0 c.1 m.1).1;
                    lowest = λ d k i f. none_in _ f (not_offered _ _ (h d (has_pos s.active d i) k) i);
                  },
                )

    -- prefix exchange: the highest label of difference from another base has a candidate
    pub reach : (b t d : ℕ) → Base w.n w.independent b → Base w.n w.independent t → TopDifference b t d → (f : ℕ) × (has (candidates w t d) f ≡ true)
    reach b t d B T p = go (has t d) refl (has b d) refl
      where
        out : has t d ≡ true → has b d ≡ false → (f : ℕ) × (has b f ≡ true) × (has t f ≡ false) × Base w.n w.independent (insert (remove t d) f) → (f : ℕ) × (has (candidates w t d) f ≡ true)
        out i o (f, x, y, N) = (
          f,
          candidate_passes t d f (has_pos b f x) (below_top b t d f p (x ∙ sym (ap not y)) (x ∙ sym i)) (i ∙ sym (ap not y))
              (subst (Base w.n w.independent) (sym (swap_is t d f (has_pos b f x) i y)) N),
        )

        come : has t d ≡ false → has b d ≡ true → (f : ℕ) × (has t f ≡ true) × (has b f ≡ false) × Base w.n w.independent (remove (insert t d) f) → (f : ℕ) × (has (candidates w t d) f ≡ true)
        come i o (f, x, y, N) = (
          f,
          candidate_passes t d f (has_pos t f x) (below_top b t d f p (y ∙ sym (ap not x)) (y ∙ sym i)) (i ∙ sym (ap not x))
              (subst (Base w.n w.independent) (swap_in t d f (has_pos b d o) i x) N),
        )

        go : (x : Bool) → has t d ≡ x → (y : Bool) → has b d ≡ y → (f : ℕ) × (has (candidates w t d) f ≡ true)
        go true i false o = out i o (exchange w.n w.independent W.matroid t b d T B i o)
        go false i true o = come i o (exchange_back w.n w.independent W.matroid t b d T B o i)
        go true i true o = absurd (clash true (has t d) (has b d) p.apart i o)
        go false i false o = absurd (clash false (has t d) (has b d) p.apart i o)

    -- the highest label of difference of two bases lies within 1..n
    pub reach_within : (b t d : ℕ) → Base w.n w.independent b → Base w.n w.independent t → TopDifference b t d → d ≤ w.n
    reach_within b t d B T p = go (has t d) refl
      where
        go : (x : Bool) → has t d ≡ x → d ≤ w.n
        go true i = within_back w.n t d (W.matroid.inside t T.is_independent) i
        go false i = within_back w.n b d (W.matroid.inside b B.is_independent) (p.apart ∙ ap not i)

    -- an open label below the one that moves is no highest label of difference
    pub none_below : (s : State R V) (e : ℕ) → Moved s e → Base w.n w.independent s.present → (b : ℕ) → Base w.n w.independent b
        → (d : ℕ) → d < e → TopDifference b s.present d → has s.active d ≡ true → ⊥
    none_below s e m T b B d k p i = let r = reach b s.present d B T p in true≢false (sym r.1 ∙ m.lowest d k i r.0)

    pub none_ahead : (s : State R V) → Still s (λ d. (1 ≤ d) × (d ≤ w.n)) → Base w.n w.independent s.present → (b : ℕ) → Base w.n w.independent b
        → Ahead s.present s.active b → ⊥
    none_ahead s h T b B (d, p, i) =
        let r = reach b s.present d B T p in true≢false (sym r.1 ∙ h d (top_pos b s.present d p, reach_within b s.present d B T p) i r.0)
