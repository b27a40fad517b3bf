-- An advance, from what the code finds.
use Rattle.std.proofs.Common.{◌≡◌, ℕ, ◌-◌, ◌<◌, ◌≤◌, Bool, true, Some, None, sym, ap, ◌∙◌, ap₂, arith}
use Rattle.std.proofs.lemmas.Bool.Decides.{nat_tests}
use Rattle.labels.specs.Sets.{has, passing}
use Rattle.walk_laws.proofs.Found.{candidates_are, step_base, step_found, step_none}
use Rattle.matroid_laws.specs.Matroids.{Base}
use Rattle.walk_laws.specs.Settings.{Setting, Sound, candidates}
use Rattle.walk_laws.specs.Steps.{State, after, exchange_at, step}
use Rattle.labels.proofs.Passing.{has_passing}
use Rattle.walk.specs.States.{Movable, partners, swappable}
use Rattle.labels.proofs.Card.{some}
use Rattle.walk_laws.specs.declared.Exchange.{Exchange}

passing_some : (t : ℕ → Bool) (e c f : ℕ) → c ≡ passing t (e - 1) → has c f ≡ true → f < e
passing_some t e c f q h = let p = has_passing t (e - 1) f in let z = ap (λ (x : ℕ). has x f) q in grind (arith, nat_tests)

pub partner_some : (n : ℕ) (independent : ℕ → Bool) (t a e c : ℕ) → Movable n independent t a e c → (f : ℕ) × (f < e) × (has c f ≡ true)
partner_some n independent t a e c M = let m = some c M.some in (m.0, passing_some (swappable independent t e) e c m.0 M.partners_are m.1, m.1)

module _ {R V : Type 0} (w : Setting R V) (W : Sound w) (s : State R V) (T : Base w.n w.independent s.present) where
  pub advance_none : ((d : ℕ) → 1 ≤ d → d ≤ w.n → has s.active d ≡ true → partners w.independent s.present d ≡ 0) → step w s ≡ (None, s)
  advance_none low = step_none w W s (λ d l g h. candidates_are w W s.present d T ∙ low d l g h)

  module _ (e c : ℕ) (M : Movable w.n w.independent s.present s.active e c) where
    advance_some : step w s ≡ (Some (exchange_at w s e c), after w s e c)
    advance_some =
        let same : candidates w s.present e ≡ c = candidates_are w W s.present e T ∙ sym M.partners_are in
        let pos = M.some in
        step_found w W s e M.active_is M.high M.low (omega arith) (λ d k a. candidates_are w W s.present d T ∙ M.first d k a)
        ∙ ap (λ (x : ℕ). (Some (exchange_at w s e x), after w s e x)) same

    pub advance_to : (x : Exchange) (t : State R V) → x ≡ exchange_at w s e c → t ≡ after w s e c → step w s ≡ (Some x, t)
    advance_to x t p r = advance_some ∙ ap₂ (λ (x : Exchange) (t : State R V). (Some x, t)) (sym p) (sym r)

    -- what is left is a base again
    pub advance_base : Base w.n w.independent (after w s e c).present
    advance_base = step_base w W s (after w s e c) (Some (exchange_at w s e c)) advance_some T
