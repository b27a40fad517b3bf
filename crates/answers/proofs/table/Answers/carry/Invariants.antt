use Rattle.std.proofs.Common.{◌-◌, bit_and}
use Rattle.labels.specs.Sets.{full, limit}
use Rattle.answers.proofs.Turns.{CarryingTo}
use Rattle.answers.proofs.table.Answers.carry.Given as goal

abbrev pub invariant-loop-label : goal.invariant-loop-label
invariant-loop-label l =
    CarryingTo l.initial.self.rows l.gone l.leaving l.entering (bit_and (bit_and l.set (18446744073709551615 - l.two)) (full limit)) l.label-iterator l.self.rows
