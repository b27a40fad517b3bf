-- What code that advances has to show.
use Rattle.std.proofs.Common.{◌≡◌, ℕ, ◌-◌, ◌<◌, ◌≤◌, Bool, true, false, not, ◌&&◌, ◌⊎◌, Some, None, Option, sym, refl, ap, ◌∙◌, subst, inl, inr, arith}
use Rattle.std.proofs.lemmas.Bool.{and_parts, both_ways, cases_lt, true≢false}
use Rattle.labels.specs.Sets.{has, differs, swap, card, passing}
use Rattle.labels.proofs.Member.{has_pos}
use Rattle.labels.proofs.Card.{some}
use Rattle.labels.proofs.Swap.{card_swap, swap_comm}
use Rattle.matroid_laws.specs.Matroids.{Base}
use Rattle.matroid_laws.proofs.Bases.{base_by_card}
use Rattle.matroid_laws.proofs.Tests.{base_passes}
use Rattle.walk_laws.proofs.Views.{Seen, none_in, step_view}
use Rattle.walk_laws.specs.Settings.{Setting, Sound, candidates, fits}
use Rattle.walk_laws.specs.Steps.{State, after, exchange_at, step}
use Rattle.labels.proofs.Passing.{passing_same}
use Rattle.walk_laws.specs.declared.Exchange.{Exchange}
use Rattle.walk_laws.proofs.Future.{Moves, chosen_tells, move_is, stop_same}

-- the test for a base, where the set is not allowed or is a base
test_is : (x a b : Bool) → (x ≡ true → a ≡ true → b ≡ true) → (x && (a && b)) ≡ (x && a)
test_is true true b h = h refl refl
test_is true false b h = refl
test_is false a b h = refl

apart : (x y : Bool) → differs x y ≡ true → y ≡ not x
apart true y h = grind arith
apart false y h = h

module _ {R V : Type 0} (w : Setting R V) (W : Sound w) where
  -- of a base, an exchange that is allowed is a base: code asks only whether it is allowed
  pub fits_allowed : (t e f : ℕ) → Base w.n w.independent t → 1 ≤ f → f < e → fits w t e f ≡ (differs (has t e) (has t f) && w.independent (swap t e f))
  fits_allowed t e f T l g = test_is (differs (has t e) (has t f)) (w.independent (swap t e f)) _ (λ d a. (and_parts _ _ (base_passes w.n w.independent (swap t e f) (base d a))).1)
    where
      same : (b : Bool) → has t e ≡ b → has t f ≡ not b → card (swap t e f) ≡ card t
      same true p q = card_swap t e f l p q
      same false p q = ap card (swap_comm t e f (omega arith) l) ∙ card_swap t f e (omega arith) q p

      base : differs (has t e) (has t f) ≡ true → w.independent (swap t e f) ≡ true → Base w.n w.independent (swap t e f)
      base d a = base_by_card w.n w.independent W.matroid t (swap t e f) T a (same (has t e) refl (apart (has t e) (has t f) d))

  -- so the candidates are those that a loop over the labels below e finds
  pub candidates_are : (t e : ℕ) → Base w.n w.independent t → candidates w t e ≡ passing (λ f. differs (has t e) (has t f) && w.independent (swap t e f)) (e - 1)
  unfolding candidates
  candidates_are t e T = passing_same (fits w t e) (λ f. differs (has t e) (has t f) && w.independent (swap t e f)) (e - 1) (λ f l g. fits_allowed t e f T l (omega arith))

  -- the lowest open label with a candidate was found
  pub step_found : (s : State R V) (e : ℕ) → has s.active e ≡ true → e ≤ w.n → 1 ≤ e → 0 < candidates w s.present e
      → ((d : ℕ) → d < e → has s.active d ≡ true → candidates w s.present d ≡ 0)
      → step w s ≡ (Some (exchange_at w s e (candidates w s.present e)), after w s e (candidates w s.present e))
  step_found s e o l one c low = go (step_view w W s) (some (candidates w s.present e) c)
    where
      go : Seen w s → (f : ℕ) × (has (candidates w s.present e) f ≡ true)
          → step w s ≡ (Some (exchange_at w s e (candidates w s.present e)), after w s e (candidates w s.present e))
      go (inl (q, still)) (f, h) = absurd (true≢false (sym h ∙ still e (one, l) o f))
      go (inr (d, m)) (f, h) = which (cases_lt d e) (cases_lt e d)
        where
          which : (d < e) ⊎ (e ≤ d) → (e < d) ⊎ (d ≤ e) → step w s ≡ (Some (exchange_at w s e (candidates w s.present e)), after w s e (candidates w s.present e))
          which (inl k) y = absurd (both_ways _ (none_in _ _ (low d k m.active)) m.chosen)
          which (inr k) (inl y) = absurd (true≢false (sym h ∙ m.lowest e y o f))
          which (inr k) (inr y) =
              let same : d ≡ e = omega arith in
              subst (λ (x : ℕ). step w s ≡ (Some (exchange_at w s x (candidates w s.present x)), after w s x (candidates w s.present x))) same m.does

  -- no open label has a candidate
  pub step_none : (s : State R V) → ((d : ℕ) → 1 ≤ d → d ≤ w.n → has s.active d ≡ true → candidates w s.present d ≡ 0) → step w s ≡ (None, s)
  step_none s low = go (step_view w W s)
    where
      go : Seen w s → step w s ≡ (None, s)
      go (inl (q, still)) = q
      go (inr (e, m)) = absurd (both_ways _ (none_in _ _ (low e (has_pos s.active e m.active) m.within m.active)) m.chosen)

  -- an advance leads from a base to a base
  pub step_base : (s t : State R V) (x : Option Exchange) → step w s ≡ (x, t) → Base w.n w.independent s.present → Base w.n w.independent t.present
  step_base s t None q T = subst (λ (u : State R V). Base w.n w.independent u.present) (sym (stop_same w W s t q)) T
  step_base s t (Some x) q T = go (move_is w W s t x q)
    where
      go : Moves w s t x → Base w.n w.independent t.present
      go (e, m, y, z) = subst (λ (u : State R V). Base w.n w.independent u.present) (sym y) (chosen_tells w s e m).3
