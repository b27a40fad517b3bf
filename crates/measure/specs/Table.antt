-- A table of what labels are worth.
use Rattle.std.specs.Prelude.{ℕ, List}
use Rattle.entries.specs.Table.{values, entry_or}
use Rattle.measure.specs.declared.table.Worths.{Worths}

-- the values of the labels 1, 2, ..
abbrev pub worths_of : {V : Type 0} → Worths V → List V
worths_of m = values m.table

-- the value of a label; zero where the label has no entry
abbrev pub worth_at : {V : Type 0} → V → List V → ℕ → V
worth_at zero entries e = entry_or entries zero e
