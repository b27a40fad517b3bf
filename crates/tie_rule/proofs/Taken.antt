-- The turn changes exactly where there is a candidate, which the choice tells: it is 0 where there is none.
use Rattle.std.proofs.Common.{◌≡◌, ℕ, ◌-◌, ◌<◌, ◌≢◌, Bool, true, false, not, ◌⊎◌, sym, ◌∙◌, inl, inr, arith}
use Rattle.labels.specs.Sets.{has}
use Rattle.labels.proofs.Member.{has_pos}
use Rattle.labels.proofs.Passing.{FirstPassing, first_passing_is}
use Rattle.tie_rule.specs.declared.turnabout.Turnabout.{Turnabout}
use Rattle.tie_rule.specs.Candidates.{lowest_below, some_below}
use Rattle.tie_rule.specs.Lowest.{some_below_one}
use Rattle.tie_rule.specs.Turns.{taken, turned, at, taken_is, taken_none, stays, turns}

-- a candidate, or none
candidates : (far : Bool) (e s : ℕ) → ((some_below e s ≡ true) × (taken far e s ≢ 0)) ⊎ ((f : ℕ) → f < e → has s f ≡ false)
candidates far e s = go (lowest_below e s) (first_passing_is (has s) (e - 1))
  where
    go : (x : ℕ) → FirstPassing (has s) (e - 1) x → ((some_below e s ≡ true) × (taken far e s ≢ 0)) ⊎ ((f : ℕ) → f < e → has s f ≡ false)
    go x (inl (z, none)) = inr (λ f l. let p = none f in let q = has_pos s f in grind arith)
    go x (inr (a, b, m, low)) =
        let under : x < e = omega arith in
        let t = has_pos s (taken far e s) (taken_is far e s x under m).1 in
        inl (some_below_one e s x under m, λ z. omega (arith, z, t))

pub turned_on : (r : Turnabout) (e s choice : ℕ) → choice ≡ taken r.far e s → choice ≢ 0 → at (not r.far) ≡ turned r.far e s
turned_on r e s choice is some = go (candidates r.far e s)
  where
    go : ((some_below e s ≡ true) × (taken r.far e s ≢ 0)) ⊎ ((f : ℕ) → f < e → has s f ≡ false) → at (not r.far) ≡ turned r.far e s
    go (inl (p, _)) = turns r e s p
    go (inr none) = absurd (some (is ∙ taken_none r.far e s none))

pub turned_idle : (r : Turnabout) (e s choice : ℕ) → choice ≡ taken r.far e s → choice ≡ 0 → r ≡ turned r.far e s
turned_idle r e s choice is none = go (candidates r.far e s)
  where
    go : ((some_below e s ≡ true) × (taken r.far e s ≢ 0)) ⊎ ((f : ℕ) → f < e → has s f ≡ false) → r ≡ turned r.far e s
    go (inl (_, some)) = absurd (some (sym is ∙ none))
    go (inr none) = sym (stays r e s none)
