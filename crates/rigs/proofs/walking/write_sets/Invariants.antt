use Rattle.std.proofs.Common.{◌-◌, ◌^◌}
use Rattle.labels.specs.Sets.{limit}
use Rattle.rigs.proofs.walking.write_sets.Given as goal

-- each advance but the last raises the count
abbrev pub decreases-loop-walk : goal.decreases-loop-walk
decreases-loop-walk g l = 2 ^ limit - l.walk.view.count
