use Rattle.std.proofs.Common.{◌≡◌}
use Rattle.std.specs.List.{fold}
use Rattle.matroid_laws.specs.Greedy.{extended}
use Rattle.matroid.proofs.Turns.{kept}
use Rattle.matroid.proofs.bases.extend.Given as goal

-- what the labels still to come will make of the kept set
abbrev pub invariant-loop-label : goal.invariant-loop-label
invariant-loop-label g l =
    let f = g.M.Matroid.independent l.matroid in extended f l.set l.first (g.M.Matroid.size l.matroid) ≡ fold (kept f) l.held l.label-iterator
