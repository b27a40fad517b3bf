use Rattle.std.proofs.Common.{◌≡◌, ◌+◌, ◌-◌, ◌^◌}
use Rattle.labels.specs.Sets.{limit}
use Rattle.rigs.proofs.walking.rest_of.Given as goal

abbrev pub invariant-loop-more : goal.invariant-loop-more
invariant-loop-more l = l.walk.view.count ≡ l.initial.walk.view.count + l.more

-- each advance but the last raises the count
abbrev pub decreases-loop-more : goal.decreases-loop-more
decreases-loop-more l = 2 ^ limit - l.walk.view.count
