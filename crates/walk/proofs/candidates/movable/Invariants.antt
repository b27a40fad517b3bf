use Rattle.std.proofs.Common.{◌≡◌, true}
use Rattle.std.specs.List.{find, list_all}
use Rattle.labels.specs.Listed.{labels_in}
use Rattle.labels.proofs.Upwards.{among}
use Rattle.answer_laws.specs.Answers.{Right}
use Rattle.answers.specs.Table.{known}
use Rattle.walk.proofs.Turns.{partnered_at}
use Rattle.walk.proofs.candidates.movable.Given as goal

-- the first of the promising labels that has a partner is the first of those still to come
abbrev pub invariant-loop-label : goal.invariant-loop-label
invariant-loop-label g l =
    let f = g.P.Matroid.independent l.matroid in let p = partnered_at f l.present in let n = g.P.Matroid.size l.matroid in
    (find p (labels_in l.promising n) ≡ find p l.label-iterator) × (list_all (among n) l.label-iterator ≡ true) × Right f l.present (known l.answers)
