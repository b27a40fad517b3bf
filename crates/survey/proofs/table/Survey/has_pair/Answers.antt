use Rattle.std.proofs.Common.{rules, tests, ap, ◌∙◌}
use Rattle.std.proofs.lemmas.Iterator.{YieldsList-from_slice}
use Rattle.std.proofs.lemmas.Iterator.Search.{any_from_yields_List}
use Rattle.survey_laws.specs.Check.{same_pair, met}
use Rattle.survey.specs.View.{row_of}
use Rattle.survey.proofs.Steps.{any_met}
use Rattle.survey.proofs.table.Survey.has_pair.Goals as goal

pub returns : goal.returns
returns c =
    any_from_yields_List (λ q. same_pair (row_of q) (row_of c.args.row)) _ _ _ c.any.ensures.ran (YieldsList-from_slice c.rows.result.now cc) (λ x b q k. search (rules, tests))
    ∙ any_met row_of c.rows.result.now (row_of c.args.row)
    ∙ ap (λ qs. met qs (row_of c.args.row)) c.rows.ensures.are
