use Rattle.std.proofs.Common.{rules, ◌∙◌, arith}
use Rattle.std.proofs.lemmas.Iterator.{YieldsList-from_range}
use Rattle.std.proofs.lemmas.Iterator.Consumers.{YieldsList-from_filter, count_from_yields_List}
use Rattle.matroid_laws.specs.Matroids.{is_base}
use Rattle.rigs.proofs.Kept.{kept_up}
use Rattle.rigs.proofs.counting.bases_below.Goals as goal

pub returns : goal.returns
returns g c =
    let p = is_base (g.M.Matroid.size c.args.matroid.now) (g.M.Matroid.independent c.args.matroid.now) in
    count_from_yields_List _ _ c.count.ensures.ran
    (YieldsList-from_filter _ p (YieldsList-from_range 0 c.args.words c.args.words c.filter.ensures.source (omega arith)) c.filter.ensures.closure (λ x r q k. search (rules)))
    ∙ kept_up p c.args.words
