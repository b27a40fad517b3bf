use Rattle.std.proofs.Common.{ℕ, sym, refl, ap, ◌∙◌, List, arith}
use Rattle.std.specs.List.{fold}
use Rattle.label_words.proofs.Ascending.{listed_to}
use Rattle.walk.proofs.Turns.{gained, summed_listed}
use Rattle.walk.proofs.calls.value_of.Goals as goal

pub loop-label-init : goal.loop-label-init
loop-label-init g c =
    let m = g.M.Measure in let n = c.args.n in let worth = m.worth c.args.measure.now in
    let all = c.into_iter-label-iterator.ensures.into_iter_gives ∙ c.labels_of-label-items.ensures ∙ listed_to c.args.set n n _ (omega (arith, c.requires)) refl c.full_to.ensures in
    summed_listed m.zero m.sum worth c.args.set n ∙ ap (λ (es : List ℕ). fold (gained m.sum worth) m.zero es) (sym all)
    ∙ ap (λ (v : g.row.M-Value.Denot). fold (gained m.sum worth) v c.into_iter-label-iterator.result) (sym c.zero-value.ensures)
