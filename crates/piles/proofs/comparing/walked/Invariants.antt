use Rattle.std.proofs.Common.{◌-◌, ◌^◌}
use Rattle.labels.specs.Sets.{limit}
use Rattle.piles.proofs.comparing.walked.Given as goal

-- each advance but the last raises the count
abbrev pub decreases-loop : goal.decreases-loop
decreases-loop g l = 2 ^ limit - l.walk.view.count
