use Rattle.answers.proofs.Rows.{one_is, set_to}
use Rattle.answers.proofs.row.with.Goals as goal

pub returns : goal.returns
returns c = λ b. set_to c.args.set c.args.label _ b c.args.held c.requires.0 c.requires.1 c.ranges.set.fits (one_is c.args.label _ c.requires.0 c.requires.1 c.inserted-one.ensures)
