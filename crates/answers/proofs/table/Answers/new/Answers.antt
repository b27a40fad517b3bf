use Rattle.answers.proofs.Places.{blank_is}
use Rattle.answers.proofs.table.Answers.new.Goals as goal

pub returns : goal.returns
returns c = blank_is 48
