use Rattle.std.proofs.Common.{◌≡◌, ℕ, ◌+◌}
use Rattle.walk.specs.States.{Keeps, setting_of, state_of}
use Rattle.walk_laws.specs.Steps.{several}
use Rattle.described.proofs.walking.advance_by.Given as goal

-- so many advances are still to come
abbrev pub invariant-loop-i : goal.invariant-loop-i
invariant-loop-i g l =
    let w = setting_of g.P.Matroid g.R.TieRule g.M.Measure l.fn.walk in
    Keeps l.fn.walk l.walk
    × (k : ℕ) × (l._i + k ≡ l.steps)
    × ((several w l.steps (state_of l.fn.walk)).2 ≡ (several w k (state_of l.walk)).2)
