use Rattle.std.proofs.Common.{refl}
use Rattle.walk.proofs.Turns.{all_alike}
use Rattle.walk.proofs.candidates.alike.Goals as goal

pub returns : goal.returns
returns c = λ d o. all_alike c.args.present d o c.full_to.result _ c.ranges.present.fits refl c.full_to.ensures
