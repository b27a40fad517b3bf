use Rattle.binary.proofs.Steps.{leads}
use Rattle.binary.proofs.highest_place.Goals as goal

pub returns : goal.returns
returns c = leads c.args.word _ c.ilog2.ensures.power_le c.ilog2.ensures.next_power_gt
