use Rattle.std.proofs.Common.{◌≡◌, ℕ, ◌+◌, length}
use Rattle.chain_lists.specs.Lists.{ChainList, begun}
use Rattle.chain_writer.specs.Writing.{OpenHolds}
use Rattle.walk.specs.States.{Keeps, setting_of, state_of}
use Rattle.walk_laws.specs.Steps.{several}
use Rattle.described.specs.Files.{filled, swaps_of}
use Rattle.described.proofs.filing.add_exchanges.Given as goal

-- so many advances are still to come, and their exchanges go to the list that the file holds
abbrev pub invariant-loop-before : goal.invariant-loop-before
invariant-loop-before g l =
    let w = setting_of g.P.Matroid g.R.TieRule g.M.Measure l.fn.walk in
    let room = length l.fn.file.out.now in
    Keeps l.fn.walk l.walk
    × (k : ℕ) × (l.before + k ≡ l.steps)
    × ((several w l.steps (state_of l.fn.walk)).2 ≡ (several w k (state_of l.walk)).2)
    × ((n start : ℕ) → OpenHolds l.fn.file.out.now l.fn.file.progress (begun n start) → (c : ChainList) × OpenHolds l.file.out.now l.file.progress c × (length c.swaps ≡ l.before) × (length l.file.out.now ≡ room)
    × (filled room (begun n start) (swaps_of (several w l.steps (state_of l.fn.walk)).0) ≡ filled room c (swaps_of (several w k (state_of l.walk)).0)))
