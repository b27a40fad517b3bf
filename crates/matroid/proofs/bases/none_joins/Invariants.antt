use Rattle.std.proofs.Common.{◌≡◌}
use Rattle.std.specs.List.{list_all}
use Rattle.labels.specs.Sets.{no_label}
use Rattle.matroid_laws.specs.Greedy.{joins}
use Rattle.matroid.proofs.Turns.{barred}
use Rattle.matroid.proofs.bases.none_joins.Given as goal

-- it hangs on the labels still to come
abbrev pub invariant-loop-label : goal.invariant-loop-label
invariant-loop-label g l =
    let f = g.M.Matroid.independent l.matroid in
    no_label (joins f l.set l.held) (g.M.Matroid.size l.matroid) ≡ list_all (barred f l.held) l.label-iterator
