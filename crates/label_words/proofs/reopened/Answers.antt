use Rattle.std.proofs.Common.{ℕ, min, ap, ◌∙◌}
use Rattle.labels.specs.Sets.{full}
use Rattle.label_words.proofs.Held.{reopened_is}
use Rattle.label_words.proofs.reopened.Goals as goal

pub returns-clause-inside : goal.returns-clause-inside
returns-clause-inside c =
    let low = c.full_to-2.ensures ∙ ap (λ (k : ℕ). full (min k 64)) c.saturating_sub.ensures in
    reopened_is c.args.active c.args.label _ _ c.ranges.active.fits c.full_to.ensures low
