use Rattle.std.proofs.Common.{sym, subst, arith}
use Rattle.matroid_laws.specs.Matroids.{Base}
use Rattle.matroid_laws.proofs.Greedy.{start_base}
use Rattle.matroid.proofs.Turns.{start_is}
use Rattle.matroid.proofs.bases.start.Goals as goal

pub returns : goal.returns
returns g c =
    let m = c.args.matroid.now in let f = g.M.Matroid.independent m in let n = g.M.Matroid.size m in
    let few = g.met.M.Matroid.few m in
    let q = start_is n _ _ _ _ c.args.offered f (omega arith) c.size.ensures c.full_to.ensures c.greedy-kept.ensures c.extend.ensures in
    record { greedy = q; base = subst (Base n f) (sym q) (start_base n f (g.met.M.Matroid.matroid m) c.args.offered) }
