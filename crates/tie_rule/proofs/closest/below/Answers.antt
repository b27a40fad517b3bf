use Rattle.std.proofs.Common.{◌∙◌, ap, min}
use Rattle.labels.specs.Sets.{full}
use Rattle.tie_rule.proofs.Highest.{masked_below}
use Rattle.tie_rule.proofs.closest.below.Goals as goal

pub returns : goal.returns
returns c = masked_below c.args.label c.args.set c.full_to.result c.ranges.set.fits (c.full_to.ensures ∙ ap (λ n. full (min n 64)) c.saturating_sub.ensures)
