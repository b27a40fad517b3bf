use Rattle.std.proofs.Common.{◌∙◌, arith}
use Rattle.tie_rule.proofs.Highest.{highest_is}
use Rattle.tie_rule.proofs.closest.ClosestTieRule.choose.Goals as goal

pub returns-clause-choice : goal.returns-clause-choice
returns-clause-choice c = c.highest.ensures ∙ highest_is 64 c.args.label c.args.set c.below.result (omega arith) c.below.ensures
