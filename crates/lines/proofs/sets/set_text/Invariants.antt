use Rattle.std.proofs.Common.{◌≡◌, ◌+◌, ◌*◌, ◌≤◌, ◌++◌, length, decimal}
use Rattle.std.specs.List.{flat_map}
use Rattle.lines.specs.Sets.{set_text}
use Rattle.lines.specs.declared.sets.TheConstants.{SET_ROOM}
use Rattle.lines.proofs.sets.set_text.Given as goal

abbrev pub invariant-loop-label : goal.invariant-loop-label
invariant-loop-label l =
    (l.text.bytes ++ flat_map decimal l.label-iterator ≡ set_text l.set)
    × (length l.text.bytes + 3 * length l.label-iterator ≤ SET_ROOM)
