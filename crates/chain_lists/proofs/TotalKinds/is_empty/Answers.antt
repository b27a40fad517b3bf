use Rattle.chain_lists.proofs.Growth.{marks_none}
use Rattle.chain_lists.proofs.TotalKinds.is_empty.Goals as goal

pub returns-then-not-self : goal.returns-then-not-self
returns-then-not-self c = λ ts. marks_none c.args.self ts c.if-not-self.true
