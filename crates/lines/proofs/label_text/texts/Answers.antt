use Rattle.std.specs.Fmt.{digits}
use Rattle.std.proofs.Common.{refl}
use Rattle.lines.proofs.label_text.texts.Goals as goal

pub returns : goal.returns
unfolding digits
returns c = refl
