-- The lines of a walk, one advance after another.
use Rattle.std.proofs.Common.{◌≡◌, ℕ, suc, ◌+◌, List, ◌++◌, codes, Some, None, Option, ap, sym, ◌∙◌, refl, subst, append_assoc}
use Rattle.std.proofs.Common.{Result}
use Rattle.outlet.specs.Sending.{Broken, Holding, Passes}
use Rattle.walk_laws.specs.declared.Exchange.{Exchange}
use Rattle.walk_laws.specs.declared.Stop.TheVariants.{Full, Finished}
use Rattle.walk_laws.specs.Settings.{Setting}
use Rattle.walk_laws.specs.Steps.{State, Several, go_on, in_front, several, step}
use Rattle.described.specs.Texts.{exchange_lines, exchange_text, onward_text, stop_text}
use Rattle.outlet.proofs.Pieces.{goes_on, goes_last, stops_in}

-- an advance in other words: of another walk with the same setting, by an answer that is known
pub stepped : {R V : Type 0} {v w : Setting R V} {o p : Option Exchange} (s t : State R V) → v ≡ w → o ≡ p
    → ◌≡◌ {A = Option Exchange × State R V} (step v s) (o, t) → ◌≡◌ {A = Option Exchange × State R V} (step w s) (p, t)
stepped {R} {V} {w = w} {o = o} s t same is q =
    subst (λ (x : Option Exchange). ◌≡◌ {A = Option Exchange × State R V} (step w s) (x, t)) is
    (subst (λ (u : Setting R V). ◌≡◌ {A = Option Exchange × State R V} (step u s) (o, t)) same q)

module _ {R V : Type 0} (w : Setting R V) where
  -- of no advance
  pub onward_none : (s : State R V) → onward_text w 0 s ≡ stop_text Full ++ codes "\n"
  unfolding several
  onward_none s = refl

  -- of one that answers finished
  pub several_stops : (k : ℕ) (s t : State R V) → step w s ≡ (None, t) → several w (suc k) s ≡ go_on w (several w k) (None, t)
  unfolding several
  several_stops k s t q = ap (go_on w (several w k)) q

  -- of one that answers an exchange, and those after it
  pub several_goes : (k : ℕ) (s t : State R V) (x : Exchange) → step w s ≡ (Some x, t) → several w (suc k) s ≡ in_front w (x, t.present) (several w k t)
  unfolding several
  several_goes k s t x q = ap (go_on w (several w k)) q

  pub onward_stops : (k : ℕ) (s t : State R V) → step w s ≡ (None, t) → onward_text w (suc k) s ≡ stop_text Finished ++ codes "\n"
  onward_stops k s t q = ap (λ (r : Several w). exchange_lines (s.count + 1) r.0 ++ (stop_text r.1 ++ codes "\n")) (several_stops k s t q)

  pub onward_goes : (k : ℕ) (s t : State R V) (x : Exchange) → step w s ≡ (Some x, t) → t.count ≡ s.count + 1
      → onward_text w (suc k) s ≡ (exchange_text t.count (x, t.present) ++ codes "\n") ++ onward_text w k t
  onward_goes k s t x q more =
      let r : Several w = several w k t in
      ap (λ (r : Several w). exchange_lines (s.count + 1) r.0 ++ (stop_text r.1 ++ codes "\n")) (several_goes k s t x q)
      ∙ ap (λ (n : ℕ). ((exchange_text n (x, t.present) ++ codes "\n") ++ exchange_lines (n + 1) r.0) ++ (stop_text r.1 ++ codes "\n")) (sym more)
      ∙ append_assoc (exchange_text t.count (x, t.present) ++ codes "\n") (exchange_lines (t.count + 1) r.0) (stop_text r.1 ++ codes "\n")

  -- ---- what k advances leave

  pub turn_leaves : (k j : ℕ) (s t : State R V) (x : Exchange) → k ≡ suc j → step w s ≡ (Some x, t) → (several w k s).2 ≡ (several w j t).2
  turn_leaves k j s t x one q = ap (λ (i : ℕ). (several w i s).2) one ∙ ap (λ (r : Several w). r.2) (several_goes j s t x q)

  pub end_leaves : (k j : ℕ) (s t : State R V) → k ≡ suc j → step w s ≡ (None, t) → (several w k s).2 ≡ t
  end_leaves k j s t one q = ap (λ (i : ℕ). (several w i s).2) one ∙ ap (λ (r : Several w). r.2) (several_stops j s t q)

  -- ---- an advance, where the lines of k are still to come
  module _ {a b : Option (List ℕ)} {all : List ℕ} (k j : ℕ) (s t : State R V) (held : List ℕ) (one : k ≡ suc j) (h : Holding a b (held ++ onward_text w k s) all) where
    -- it answers an exchange, and lines are still to come
    turn_held : (x : Exchange) → step w s ≡ (Some x, t) → t.count ≡ s.count + 1
        → Holding a b (held ++ ((exchange_text t.count (x, t.present) ++ codes "\n") ++ onward_text w j t)) all
    turn_held x q more = subst (λ (l : List ℕ). Holding a b (held ++ l) all) (ap (λ (i : ℕ). onward_text w i s) one ∙ onward_goes j s t x q more) h

    pub turn_goes : {c : Option (List ℕ)} (x : Exchange) (after : List ℕ) → step w s ≡ (Some x, t) → t.count ≡ s.count + 1
        → Holding b c after (held ++ (exchange_text t.count (x, t.present) ++ codes "\n")) → Holding a c (after ++ onward_text w j t) all
    turn_goes x after q more l = goes_on held _ _ (turn_held x q more) after l

    pub turn_breaks : {c : Option (List ℕ)} (x : Exchange) → step w s ≡ (Some x, t) → t.count ≡ s.count + 1
        → Broken b c (held ++ (exchange_text t.count (x, t.present) ++ codes "\n")) → Broken a c all
    turn_breaks x q more l = stops_in held _ _ (turn_held x q more) l

    -- it answers finished
    pub turn_ends : {E : Type 0} (c : Option (List ℕ)) (after : List ℕ) (r : Result (Unit {0}) E) → step w s ≡ (None, t)
        → Passes b c r after (held ++ (stop_text Finished ++ codes "\n")) → Passes a c r after all
    turn_ends c after r q l =
        goes_last c held _ after r (subst (λ (l : List ℕ). Holding a b (held ++ l) all) (ap (λ (i : ℕ). onward_text w i s) one ∙ onward_stops j s t q) h) l

  -- no advance is still to come
  pub last_line : {E : Type 0} {a b : Option (List ℕ)} {all : List ℕ} (c : Option (List ℕ)) (k : ℕ) (s : State R V) (held after : List ℕ) (r : Result (Unit {0}) E)
      → k ≡ 0 → Holding a b (held ++ onward_text w k s) all → Passes b c r after (held ++ (stop_text Full ++ codes "\n")) → Passes a c r after all
  last_line {a = a} {b = b} {all = all} c k s held after r none h l =
      goes_last c held _ after r (subst (λ (l : List ℕ). Holding a b (held ++ l) all) (ap (λ (i : ℕ). onward_text w i s) none ∙ onward_none s) h) l

  pub last_leaves : (k : ℕ) (s : State R V) → k ≡ 0 → (several w k s).2 ≡ s
  unfolding several
  last_leaves k s none = ap (λ (i : ℕ). (several w i s).2) none
