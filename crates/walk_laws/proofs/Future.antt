-- What further advances hand out.
use Rattle.std.proofs.Common.{◌≡◌, ℕ, zero, suc, ◌≤◌, not, ◌⊎◌, ◌↔◌, List, [], ◌∷◌, Some, None, Option, sym, refl, ap, ◌∙◌, subst, subst₂, inl, inr, arith}
use mathlib.Core.Bool.{not-not}
use Rattle.std.proofs.lemmas.Option.{none-some, same_Some}
use Rattle.labels.specs.Sets.{has}
use Rattle.labels.specs.Families.{In, Once}
use Rattle.labels.proofs.Order.{reopened_less}
use Rattle.matroid_laws.specs.Matroids.{Base}
use Rattle.walk_laws.specs.Law.{Ahead, Leads, Linked, ToCome}
use Rattle.walk_laws.proofs.Views.{Candidate, Moved, Seen, Still, candidate_tells, none_ahead, none_below, step_view}
use Rattle.walk_laws.specs.Lives.{Runs, ends, goes}
use Rattle.walk_laws.specs.Settings.{Setting, Sound, candidates}
use Rattle.walk_laws.specs.Steps.{State, after, exchange_at, step}
use Rattle.walk_laws.proofs.Ahead.{ahead_back, ahead_on, not_ahead, swap_exchanges}
use Rattle.walk_laws.specs.declared.Exchange.{Exchange}

pub no_both : {A B : Type 0} (a : A) (s t : B) → ◌≡◌ {A = Option A × B} (None, s) (Some a, t) → ⊥
no_both {A} {B} a s t p = none-some a (ap (λ (x : Option A × B). x.0) p)

module _ {R V : Type 0} (w : Setting R V) where
  -- the state after the advance at e
  abbrev pub moved : State R V → ℕ → State R V
  moved s e = after w s e (candidates w s.present e)

  -- what the exchange at e is
  pub chosen_tells : (s : State R V) (e : ℕ) → Moved w s e
      → Candidate w s.present e (w.choice s.tie e (candidates w s.present e))
  chosen_tells s e m = candidate_tells w s.present e _ m.chosen

  -- the advance from s to t by x moves at a label
  abbrev pub Moves : State R V → State R V → Exchange → Type 0
  Moves s t x = (e : ℕ) × Moved w s e × (t ≡ moved s e) × (x ≡ exchange_at w s e (candidates w s.present e))

  pub record Future (s : State R V) (F : List ℕ) : Type 0 where
    pub runs : Runs w s F
    pub once : Once F
    pub exact : (b : ℕ) → In b F ↔ ToCome w s b
    pub linked : Linked s.present F

  module _ (W : Sound w) where
    nothing : (s : State R V) → Base w.n w.independent s.present → step w s ≡ (None, s) → Still w s (λ d. (1 ≤ d) × (d ≤ w.n)) → Future s []
    nothing s T q still = record { runs = ends q; once = tt; exact = λ b. (λ i. elim i [ ], λ c. absurd (none_ahead w W s still T b c.0 c.1)); linked = tt }

    onward : (s : State R V) (e : ℕ) (F : List ℕ) → Base w.n w.independent s.present → Moved w s e → Future (moved s e) F → Future s ((moved s e).present ∷ F)
    onward s e F T m f = record {
      runs = goes m.does f.runs;
      once = (λ i. not_ahead (moved s e).present (moved s e).active ((f.exact (moved s e).present).0 i).1, f.once);
      exact = λ b. (there b, back b);
      linked = (swap_exchanges s.present e _ c.0 c.1 c.2, f.linked);
    }
      where
        c : Candidate w s.present e (w.choice s.tie e (candidates w s.present e))
        c = chosen_tells s e m

        there : (b : ℕ) → (b ≡ (moved s e).present) ⊎ In b F → ToCome w s b
        there b (inl q) = (subst (Base w.n w.independent) (sym q) c.3, ahead_back s.present s.active e _ b c.0 c.1 m.active (inl q))
        there b (inr i) = let r = (f.exact b).0 i in (r.0, ahead_back s.present s.active e _ b c.0 c.1 m.active (inr r.1))

        back : (b : ℕ) → ToCome w s b → (b ≡ (moved s e).present) ⊎ In b F
        back b (B, a) = go (ahead_on s.present s.active e _ b c.0 c.1 m.active (none_below w W s e m T b B) a)
          where
            go : (b ≡ (moved s e).present) ⊎ Ahead (moved s e).present (moved s e).active b → (b ≡ (moved s e).present) ⊎ In b F
            go (inl q) = inl q
            go (inr a') = inr ((f.exact b).1 (B, a'))

    future_within : (k : ℕ) (s : State R V) → s.active ≤ k → Base w.n w.independent s.present → (F : List ℕ) × Future s F
    future_within zero s h T = go (step_view w W s)
      where
        go : Seen w s → (F : List ℕ) × Future s F
        go (inl (q, still)) = ([], nothing s T q still)
        go (inr (e, m)) = absurd (omega (arith, reopened_less s.active e m.active))
    future_within (suc k) s h T = go (step_view w W s) (future_within k)
      where
        go : Seen w s
            → ((s' : State R V) → s'.active ≤ k → Base w.n w.independent s'.present → (F : List ℕ) × Future s' F) → (F : List ℕ) × Future s F
        go (inl (q, still)) ih = ([], nothing s T q still)
        go (inr (e, m)) ih =
            let r = ih (moved s e) (omega (arith, reopened_less s.active e m.active)) (chosen_tells s e m).3 in
            ((moved s e).present ∷ r.0, onward s e r.0 T m r.1)

    pub future : (s : State R V) → Base w.n w.independent s.present → (F : List ℕ) × Future s F
    future s T = future_within s.active s (omega arith) T

    -- ---- an advance does one thing

    pub stop_same : (s t : State R V) → step w s ≡ (None, t) → t ≡ s
    stop_same s t q = go (step_view w W s)
      where
        go : Seen w s → t ≡ s
        go (inl (p, still)) = ap (λ (x : Option Exchange × State R V). x.1) (sym q ∙ p)
        go (inr (e, m)) = absurd (no_both _ _ _ (sym q ∙ m.does))

    pub move_is : (s t : State R V) (x : Exchange) → step w s ≡ (Some x, t) → Moves s t x
    move_is s t x q = go (step_view w W s)
      where
        go : Seen w s → Moves s t x
        go (inl (p, still)) = absurd (no_both _ _ _ (sym p ∙ q))
        go (inr (e, m)) = (
          e,
          m,
          ap (λ (x : Option Exchange × State R V). x.1) (sym q ∙ m.does),
          same_Some _ _ (ap (λ (x : Option Exchange × State R V). x.0) (sym q ∙ m.does)),
        )

    -- an exchange leads from the set before it to the set after it
    pub leads : (s t : State R V) (x : Exchange) → step w s ≡ (Some x, t) → Leads s.present x t.present
    leads s t x q = go (move_is s t x q)
      where
        go : Moves s t x → Leads s.present x t.present
        go (e, m, y, z) =
            let c = chosen_tells s e m in
            subst₂ (λ (x : Exchange) (t : State R V). Leads s.present x t.present) (sym z) (sym y) (record {
              positive = c.0;
              lower = c.1;
              high_was = sym (not-not (has s.present e));
              low_was = sym (ap not c.2 ∙ not-not _);
              made = refl;
            })

  pub runs_on : (s t : State R V) (x : Exchange) (F : List ℕ) → step w s ≡ (Some x, t) → Runs w s F → (G : List ℕ) × (F ≡ t.present ∷ G) × Runs w t G
  runs_on s t x F q (ends p) = absurd (no_both _ _ _ (sym p ∙ q))
  runs_on s t x F q (goes {F = G} p r) = let e = ap (λ (x : Option Exchange × State R V). x.1) (sym p ∙ q) in (G, ap (λ (u : State R V). u.present ∷ G) e, subst (λ (u : State R V). Runs w u G) e r)

  pub runs_off : (s t : State R V) (F : List ℕ) → step w s ≡ (None, t) → Runs w s F → F ≡ []
  runs_off s t F q (ends p) = refl
  runs_off s t F q (goes p r) = absurd (no_both _ _ _ (sym q ∙ p))

  pub runs_one : (s : State R V) (F G : List ℕ) → Runs w s F → Runs w s G → F ≡ G
  runs_one s F G (ends p) q = sym (runs_off s s G p q)
  runs_one s F G (goes {t = t} {F = F'} p r) q = let c = runs_on s t _ G p q in ap (λ (L : List ℕ). t.present ∷ L) (runs_one t F' c.0 r c.2) ∙ sym c.1
