use Rattle.std.proofs.Common.{sym, ap, ◌∙◌, arith}
use Rattle.std.specs.List.{fold}
use Rattle.label_words.proofs.Ascending.{listed_to}
use Rattle.matroid.proofs.Turns.{kept, extends}
use Rattle.matroid.proofs.bases.extend.Goals as goal

pub loop-label-init : goal.loop-label-init
loop-label-init g c =
    let m = c.args.matroid.now in let f = g.M.Matroid.independent m in let n = g.M.Matroid.size m in
    let few = g.met.M.Matroid.few m in let k = c.args.first in
    let all = c.into_iter-label-iterator.ensures.into_iter_gives ∙ c.labels_of-label-items.ensures ∙ listed_to c.args.set n _ _ (omega arith) c.size.ensures c.full_to.ensures in
    extends f c.args.set k n (omega arith) ∙ ap (fold (kept f) k) (sym all)
