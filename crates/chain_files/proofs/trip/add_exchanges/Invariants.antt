use Rattle.std.proofs.Common.{◌-◌, ◌^◌}
use Rattle.labels.specs.Sets.{limit}
use Rattle.chain_files.proofs.trip.add_exchanges.Given as goal

-- each advance but the last raises the count
abbrev pub decreases-loop-x : goal.decreases-loop-x
decreases-loop-x l = 2 ^ limit - l.walk.view.count
