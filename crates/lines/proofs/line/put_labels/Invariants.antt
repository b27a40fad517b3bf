use Rattle.std.proofs.Common.{◌≡◌, ◌+◌, ◌*◌, ◌≤◌, true, ◌++◌, length, take}
use Rattle.std.specs.List.{flat_map, list_all}
use Rattle.labels.proofs.Upwards.{among}
use Rattle.lines.specs.declared.label_text.TheConstants.{LABEL_ROOM}
use Rattle.lines.specs.declared.line.TheConstants.{LABELS_ROOM}
use Rattle.lines.specs.Text.{label_text, labels_text}
use Rattle.lines.proofs.line.put_labels.Given as goal

abbrev pub invariant-loop-label : goal.invariant-loop-label
invariant-loop-label l =
    (take l.at l.out ++ flat_map label_text l.label-iterator ≡ take l.start l.fn.out ++ labels_text l.labels 64)
    × (l.at + LABEL_ROOM * length l.label-iterator ≤ l.start + LABELS_ROOM)
    × (list_all (among 64) l.label-iterator ≡ true)
