use Rattle.std.proofs.Common.{◌∙◌, arith}
use Rattle.tie_rule.specs.Lowest.{lowest_is}
use Rattle.tie_rule.proofs.furthest.FurthestTieRule.choose.Goals as goal

pub returns-clause-choice : goal.returns-clause-choice
returns-clause-choice c = c.lowest.ensures ∙ lowest_is 64 c.args.label c.args.set c.below.result (omega arith) c.below.ensures
