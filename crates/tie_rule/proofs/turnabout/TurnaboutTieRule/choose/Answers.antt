use Rattle.tie_rule.proofs.Taken.{turned_on, turned_idle}
use Rattle.tie_rule.proofs.turnabout.TurnaboutTieRule.choose.Goals as goal

pub returns-then-choice-ne0-clause-next : goal.returns-then-choice-ne0-clause-next
returns-then-choice-ne0-clause-next c = turned_on c.args.self.now c.args.label c.args.set c.take-choice.result c.take-choice.ensures c.if-choice-ne0.true

pub returns-else-choice-ne0-clause-next : goal.returns-else-choice-ne0-clause-next
returns-else-choice-ne0-clause-next c = turned_idle c.args.self.now c.args.label c.args.set c.take-choice.result c.take-choice.ensures c.if-choice-ne0.false
