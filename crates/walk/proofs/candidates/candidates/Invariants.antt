use Rattle.std.proofs.Common.{◌≡◌, ℕ}
use Rattle.labels.specs.Sets.{swap}
use Rattle.labels.specs.Listed.{labels_in}
use Rattle.answer_laws.specs.Answers.{Right}
use Rattle.answers.specs.Table.{known}
use Rattle.answers.proofs.Columns.{Gathered}
use Rattle.walk.proofs.candidates.candidates.Given as goal

-- the labels that are not left to ask are found if they can be swapped
abbrev pub invariant-loop-other : goal.invariant-loop-other
invariant-loop-other g l =
    let f = g.P.Matroid.independent l.matroid in
    (rest : ℕ) × (l.other-iterator ≡ labels_in rest 64) × Gathered (λ (o : ℕ). f (swap l.present l.label o)) l.others rest l.found × Right f l.present (known l.answers)
