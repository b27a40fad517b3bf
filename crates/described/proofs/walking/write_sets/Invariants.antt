use Rattle.std.proofs.Common.{◌≡◌, ℕ, ◌+◌, ◌++◌, string_bytes}
use Rattle.outlet.specs.Sending.{Holding}
use Rattle.walk.specs.States.{Keeps, setting_of, state_of}
use Rattle.walk_laws.specs.Steps.{several}
use Rattle.described.specs.Texts.{list_text, onward_text}
use Rattle.described.proofs.walking.write_sets.Given as goal

-- so many advances are still to come, and their lines
abbrev pub invariant-loop : goal.invariant-loop
invariant-loop g l =
    let w = setting_of g.P.Matroid g.R.TieRule g.M.Measure l.fn.walk in
    let contents = g.W.Write.contents in
    Keeps l.fn.walk l.walk
    × (k : ℕ) × (l.counter + k ≡ l.steps)
    × ((several w l.steps (state_of l.fn.walk)).2 ≡ (several w k (state_of l.walk)).2)
    × Holding (contents l.fn.out.writer) (contents l.out.writer) (string_bytes l.out.held ++ onward_text w k (state_of l.walk))
    (string_bytes l.fn.out.held ++ list_text w l.steps (state_of l.fn.walk))
