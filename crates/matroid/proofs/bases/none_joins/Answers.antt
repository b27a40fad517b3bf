use Rattle.std.proofs.Common.{sym, ap, ◌∙◌, arith}
use Rattle.std.specs.List.{list_all}
use Rattle.label_words.proofs.Ascending.{listed_to}
use Rattle.matroid.proofs.Turns.{barred, none_joins_is}
use Rattle.matroid.proofs.bases.none_joins.Goals as goal

pub loop-label-init : goal.loop-label-init
loop-label-init g c =
    let m = c.args.matroid.now in let f = g.M.Matroid.independent m in let n = g.M.Matroid.size m in
    let few = g.met.M.Matroid.few m in let held = c.args.held in
    let all = c.into_iter-label-iterator.ensures.into_iter_gives ∙ c.labels_of-label-items.ensures ∙ listed_to c.args.set n _ _ (omega arith) c.size.ensures c.full_to.ensures in
    none_joins_is n f c.args.set held (omega arith) ∙ ap (list_all (barred f held)) (sym all)
