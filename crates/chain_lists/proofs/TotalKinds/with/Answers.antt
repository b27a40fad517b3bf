use Rattle.chain_lists.proofs.Growth.{marks_shift, marks_lamp}
use Rattle.chain_lists.proofs.TotalKinds.with.Goals as goal

pub returns-in-Shift : goal.returns-in-Shift
returns-in-Shift c = λ ts m. rw c.in-Shift.is (marks_shift c.args.self ts _ _ m)

pub returns-in-Lamp : goal.returns-in-Lamp
returns-in-Lamp c = λ ts m. rw c.in-Lamp.is (marks_lamp c.args.self ts _ m)
