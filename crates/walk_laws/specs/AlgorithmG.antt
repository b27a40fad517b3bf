-- Algorithm G: a walk told by the bases that it has visited, with no active labels.
use Rattle.std.specs.Prelude.{ℕ, zero, suc, ◌-◌, Bool, true, false, cond, not, ◌&&◌, List, [], ◌∷◌, ◌++◌, Some, None, Option, ◌==◌}
use Rattle.labels.specs.Sets.{has, swap, passing, first_passing}
use Rattle.walk_laws.specs.declared.Exchange.{Exchange}
use Rattle.walk_laws.specs.Settings.{Setting, fits}
use Rattle.walk_laws.specs.Steps.{State}
use Rattle.walk_laws.specs.Lives.{handed}

pub record GState (R : Type 0) : Type 0 where
  pub present : ℕ
  pub visited : List ℕ
  pub tie : R

-- whether x stands in the list
unfoldable pub among : ℕ → List ℕ → Bool
among x [] = false
among x (y ∷ ys) = cond (x == y) true (among x ys)

module _ {R V : Type 0} (w : Setting R V) where
  -- the labels f below e such that swapping e and f leads to a base not visited yet
  unfoldable pub unvisited : List ℕ → ℕ → ℕ → ℕ
  unvisited H t e = passing (λ f. fits w t e f && not (among (swap t e f) H)) (e - 1)

  -- the rule picks one of them, and that base is visited
  abbrev pub g_exchange : GState R → ℕ → Exchange
  g_exchange g e = record { high = e; low = w.choice g.tie e (unvisited g.visited g.present e); came = not (has g.present e) }

  abbrev pub g_visit : GState R → ℕ → GState R
  g_visit g e = record {
    present = swap g.present e (g_exchange g e).low;
    visited = g.visited ++ (swap g.present e (g_exchange g e).low ∷ []);
    tie = w.next g.tie e (unvisited g.visited g.present e);
  }

  abbrev pub g_step_at : GState R → ℕ → Option Exchange × GState R
  g_step_at g zero = (None, g)
  g_step_at g (suc k) = (Some (g_exchange g (suc k)), g_visit g (suc k))

  -- of all exchanges that lead to a base not visited yet, those with the lowest higher label; none: finished
  unfoldable pub g_step : GState R → Option Exchange × GState R
  g_step g = g_step_at g (first_passing (λ e. not (unvisited g.visited g.present e == 0)) w.n)

  -- after k steps
  abbrev pub g_steps : ℕ → GState R → GState R
  g_steps zero g = g
  g_steps (suc k) g = g_steps k (g_step g).1

-- the walk that has handed out H and is in the state s, seen as Algorithm G
abbrev pub g_of : {R V : Type 0} → List ℕ → State R V → GState R
g_of H s = record { present = s.present; visited = H; tie = s.tie }

-- an advance seen so: the exchange, and what was visited before and by it
abbrev pub g_of_step : {R V : Type 0} → List ℕ → Option Exchange × State R V → Option Exchange × GState R
g_of_step H (x, t) = (x, g_of (H ++ handed x t) t)
