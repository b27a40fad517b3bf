-- The calls on a walk, and the lives of a walk: its beginning, and then any sequence of calls.
use Rattle.std.specs.Prelude.{◌≡◌, ℕ, List, [], ◌∷◌, ◌++◌, map, Some, None, Option}
use Rattle.walk_laws.specs.declared.Exchange.{Exchange}
use Rattle.walk_laws.specs.declared.Stop.{Stop}
use Rattle.walk_laws.specs.declared.View.{View}
use Rattle.walk_laws.specs.Settings.{Setting}
use Rattle.walk_laws.specs.Steps.{State, step, several}

-- what a call answers
pub data Answer (V : Type 0) : Type 0 where
  looked : View V → Answer V
  -- none: finished
  advanced : Option Exchange → Answer V
  -- of a roll with so many free entries: each exchange with the set that it led to, and why the list stopped
  listed : ℕ → List (Exchange × ℕ) → Stop → Answer V

-- the sets of a list of exchanges
abbrev pub sets_of : List (Exchange × ℕ) → List ℕ
sets_of xs = map (λ x. x.1) xs

module _ {R V : Type 0} where
  abbrev pub view_of : State R V → View V
  view_of s = record { present = s.present; active = s.active; count = s.count; value = s.value; total = s.total }

  -- what an advance hands out: the set that it leaves, unless it answers finished
  abbrev pub handed : Option Exchange → State R V → List ℕ
  handed None t = []
  handed (Some x) t = t.present ∷ []

  module _ (w : Setting R V) where
    -- a call: the state before, the answer, the sets handed out, the state after
    pub data Call : State R V → Answer V → List ℕ → State R V → Type 0 where
      looks : {s : State R V} → Call s (looked (view_of s)) [] s
      advances : {s t : State R V} {x : Option Exchange} → step w s ≡ (x, t) → Call s (advanced x) (handed x t) t
      lists : {s t : State R V} {k : ℕ} {xs : List (Exchange × ℕ)} {stop : Stop} → several w k s ≡ (xs, stop, t)
          → Call s (listed k xs stop) (sets_of xs) t

    -- the lives of the walk that begins in the state s₀: all sets handed out, in order, and the state reached
    pub data Life (s₀ : State R V) : List ℕ → State R V → Type 0 where
      begins : Life s₀ (s₀.present ∷ []) s₀
      calls : {H new : List ℕ} {s t : State R V} {answer : Answer V} → Life s₀ H s → Call s answer new t → Life s₀ (H ++ new) t

    -- advances alone, from s up to finished, hand out exactly F, in order
    pub data Runs : State R V → List ℕ → Type 0 where
      ends : {s : State R V} → step w s ≡ (None, s) → Runs s []
      goes : {s t : State R V} {x : Exchange} {F : List ℕ} → step w s ≡ (Some x, t) → Runs t F → Runs s (t.present ∷ F)
