-- Taking the closest and the furthest candidate by turns.
use Rattle.std.specs.Prelude.{◌≡◌, ℕ, ◌<◌, Bool, true, false, cond, not}
use Rattle.std.proofs.Common.{sym, ap}
use Rattle.labels.specs.Sets.{has, differs, highest_below}
use Rattle.labels.proofs.Passing.{highest_below_is, highest_below_none}
use Rattle.tie_rule.specs.declared.turnabout.Turnabout.{Turnabout}
use Rattle.tie_rule.specs.Candidates.{lowest_below, some_below}
use Rattle.tie_rule.specs.Lowest.{lowest_below_is, lowest_below_none, some_below_none}

-- what the rule takes, and where it is then
abbrev pub taken : Bool → ℕ → ℕ → ℕ
taken far e c = cond far (lowest_below e c) (highest_below e c)

abbrev pub turned : Bool → ℕ → ℕ → Turnabout
turned far e c = record { far = differs (some_below e c) far }

abbrev pub at : Bool → Turnabout
at far = record { far = far }

pub taken_is : (far : Bool) (e c f : ℕ) → f < e → has c f ≡ true → (taken far e c < e) × (has c (taken far e c) ≡ true)
taken_is true e c f l h = lowest_below_is e c f l h
taken_is false e c f l h = highest_below_is e c f l h

pub taken_none : (far : Bool) (e c : ℕ) → ((f : ℕ) → f < e → has c f ≡ false) → taken far e c ≡ 0
taken_none true e c none = lowest_below_none e c none
taken_none false e c none = highest_below_none e c none

pub stays : (r : Turnabout) (e c : ℕ) → ((f : ℕ) → f < e → has c f ≡ false) → turned r.far e c ≡ r
stays r e c none = ap (λ (b : Bool). at (differs b r.far)) (some_below_none e c none)

pub turns : (r : Turnabout) (e c : ℕ) → some_below e c ≡ true → at (not r.far) ≡ turned r.far e c
turns r e c some = sym (ap (λ (b : Bool). at (differs b r.far)) some)

pub turn_picks : (r : Turnabout) (e c f : ℕ) → f < e → has c f ≡ true → (taken r.far e c < e) × (has c (taken r.far e c) ≡ true)
turn_picks r e c f l h = taken_is r.far e c f l h

pub turn_idle : (r : Turnabout) (e c : ℕ) → ((f : ℕ) → f < e → has c f ≡ false) → (taken r.far e c ≡ 0) × (turned r.far e c ≡ r)
turn_idle r e c none = (taken_none r.far e c none, stays r e c none)
