use Rattle.std.proofs.Common.{◌≡◌, true}
use Rattle.labels.specs.Sets.{no_label}
use Rattle.partition.specs.Held.{classes, limits}
use Rattle.partition.proofs.Limits.{over}
use Rattle.partition.proofs.independence.PartitionMatroid.is_independent.Given as goal

abbrev pub invariant-loop-room : goal.invariant-loop-room
invariant-loop-room l = no_label (over (classes l.self) (limits l.self) l.set) l.room-index ≡ true
