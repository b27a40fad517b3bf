-- The columns that the code holds, by their labels.
use Rattle.std.specs.Prelude.{ℕ, List}
use Rattle.entries.specs.Table.{values, entry_or}
use Rattle.binary_matroid.specs.declared.matrix.Binary.{Binary}

-- the columns of the labels 1, 2, ..
abbrev pub columns : Binary → List ℕ
columns m = values m.table

-- the column of a label; 0 where it has none
abbrev pub column_at : List ℕ → ℕ → ℕ
column_at cs e = entry_or cs 0 e
