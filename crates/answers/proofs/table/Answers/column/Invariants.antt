use Rattle.std.proofs.Common.{◌≡◌, ℕ, bit_and}
use Rattle.labels.specs.Sets.{has, full, limit}
use Rattle.labels.specs.Listed.{labels_in}
use Rattle.answers.specs.Table.{row_of}
use Rattle.answers.proofs.Columns.{Gathered}
use Rattle.answers.proofs.table.Answers.column.Given as goal

abbrev pub invariant-loop-inside : goal.invariant-loop-inside
invariant-loop-inside l =
    let o = bit_and l.insides (full limit) in
    (rest : ℕ) × (l.inside-iterator ≡ labels_in rest 64)
    × Gathered (λ (a : ℕ). has (row_of l.self.rows a).yes l.outside) o rest l.column.yes
    × Gathered (λ (a : ℕ). has (row_of l.self.rows a).no l.outside) o rest l.column.no
