use Rattle.std.proofs.Common.{sym, arith}
use Rattle.labels.proofs.Words.{shift_tests}
use Rattle.label_words.proofs.Held.{has_beyond, outside}
use Rattle.label_words.proofs.contains.Goals as goal

pub returns-then-label-eq0 : goal.returns-then-label-eq0
returns-then-label-eq0 c = sym (has_beyond c.args.set c.args.label c.ranges.set.fits (outside c.args.label c.then-label-eq0.either))

pub returns : goal.returns
returns c = shift_tests c.args.set c.args.label (omega arith)
