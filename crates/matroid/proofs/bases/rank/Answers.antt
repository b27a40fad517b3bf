use Rattle.std.proofs.Common.{ℕ, sym, subst}
use Rattle.labels.specs.Sets.{card}
use Rattle.matroid_laws.specs.Matroids.{Rank}
use Rattle.matroid_laws.proofs.Greedy.{greedy_ranks}
use Rattle.matroid.proofs.bases.rank.Goals as goal

pub returns : goal.returns
returns g c =
    let m = c.args.matroid.now in let f = g.M.Matroid.independent m in
    subst (λ (k : ℕ). Rank f c.args.set (card k)) (sym c.greedy.ensures) (greedy_ranks (g.M.Matroid.size m) f (g.met.M.Matroid.matroid m) c.args.set)
