use Rattle.small_rigs.proofs.Passing.{small_rigs}
use Rattle.small_rigs.proofs.small_rigs_hold.Goals as goal

pub returns : goal.returns
returns c = small_rigs
