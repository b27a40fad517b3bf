use Rattle.std.proofs.Common.{sym, ◌∙◌, arith}
use Rattle.matroid.proofs.Turns.{base_is, tells_base}
use Rattle.matroid.proofs.bases.is_base.Goals as goal

pub returns-then-is_independent : goal.returns-then-is_independent
returns-then-is_independent g c =
    let m = c.args.matroid.now in let f = g.M.Matroid.independent m in let n = g.M.Matroid.size m in
    let few = g.met.M.Matroid.few m in let b = c.args.set in
    let is = c.none_joins.ensures ∙ base_is n f b (omega arith) (omega (arith, c.ranges.set.fits)) (sym c.is_independent.ensures ∙ c.if-is_independent.true) in
    record { tested = is; base = tells_base n f b _ is }
