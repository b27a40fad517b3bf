-- A walk as the law of its life sees it.
use Rattle.std.specs.Prelude.{◌≡◌, ℕ, ◌-◌, ◌<◌, ◌≤◌, Bool, true, ◌&&◌}
use Rattle.labels.specs.Sets.{has, differs, swap, passing}
use Rattle.matroid.specs.declared.interface.Matroid.{Ghosts as MatroidOf}
use Rattle.tie_rule.specs.declared.rule.TieRule.{Ghosts as TieRuleOf}
use Rattle.measure.specs.declared.interface.Measure.{Ghosts as MeasureOf}
use Rattle.walk_laws.specs.Settings.{Setting}
use Rattle.walk_laws.specs.Steps.{State}
use Rattle.walk.specs.declared.state.Walk.{Walk}

-- what a walk is made of, by the meanings of its matroid, tie rule and measure
abbrev pub setting : {P R M V : Type 0} → MatroidOf P → TieRuleOf R → MeasureOf M V → P → M → Setting R V
setting matroids rules measures matroid measure = record {
  n = matroids.size matroid;
  independent = matroids.independent matroid;
  choice = rules.choice;
  next = rules.next;
  zero = measures.zero;
  sum = measures.sum;
  opposite = measures.opposite;
  worth = measures.worth measure;
}

abbrev pub state_of : {P R M V : Type 0} {matroids : MatroidOf P} {rules : TieRuleOf R} {measures : MeasureOf M V} → Walk P R M V matroids rules measures → State R V
state_of w = record { present = w.view.present; active = w.view.active; count = w.view.count; value = w.view.value; total = w.view.total; tie = w.rule }

abbrev pub setting_of : {P R M V : Type 0} (matroids : MatroidOf P) (rules : TieRuleOf R) (measures : MeasureOf M V) → Walk P R M V matroids rules measures → Setting R V
setting_of matroids rules measures w = setting matroids rules measures w.matroid w.measure

-- one walk has the matroid and the measure of another
pub record Keeps {P R M V : Type 0} {matroids : MatroidOf P} {rules : TieRuleOf R} {measures : MeasureOf M V} (old new : Walk P R M V matroids rules measures) : Type 0 where
  pub matroid : new.matroid ≡ old.matroid
  pub measure : new.measure ≡ old.measure

-- exactly one of e and f is in t, and swapping them gives an independent set
abbrev pub swappable : (ℕ → Bool) → ℕ → ℕ → ℕ → Bool
swappable independent t e f = differs (has t e) (has t f) && independent (swap t e f)

-- the labels below e that it can so be swapped with; where t is a base, these are the candidates of e
abbrev pub partners : (ℕ → Bool) → ℕ → ℕ → ℕ
partners independent t e = passing (swappable independent t e) (e - 1)

-- e is the lowest active label among 1..n that has such partners, and c is all of them
pub record Movable (n : ℕ) (independent : ℕ → Bool) (present active e c : ℕ) : Type 0 where
  pub low : 1 ≤ e
  pub high : e ≤ n
  pub active_is : has active e ≡ true
  pub partners_are : c ≡ partners independent present e
  pub some : 0 < c
  pub first : (d : ℕ) → d < e → has active d ≡ true → partners independent present d ≡ 0
