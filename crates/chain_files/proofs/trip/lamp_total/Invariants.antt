use Rattle.std.proofs.Common.{◌-◌, ◌^◌}
use Rattle.labels.specs.Sets.{limit}
use Rattle.chain_files.proofs.trip.lamp_total.Given as goal

-- each advance but the last raises the count
abbrev pub decreases-loop : goal.decreases-loop
decreases-loop l = 2 ^ limit - l.walk.view.count
