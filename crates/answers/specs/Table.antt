-- What the table of the code says.
use Rattle.std.specs.Prelude.{ℕ, zero, suc, Bool, ◌&&◌, List, nat_le, slice_index_or}
use Rattle.labels.specs.Sets.{has, limit}
use Rattle.answer_laws.specs.Answers.{Answers as Known}
use Rattle.answers.specs.declared.row.Row.{Row}
use Rattle.answers.specs.declared.table.Answers.{Answers}

-- the row of a label, which stands one place before its number; of others nothing is known
abbrev pub row_of : List Row → ℕ → Row
row_of rows zero = record { yes = 0; no = 0 }
row_of rows (suc k) = slice_index_or rows k (record { yes = 0; no = 0 })

abbrev pub known_in : List Row → Known
known_in rows = record { yes = λ a b. has (row_of rows a).yes b; no = λ a b. has (row_of rows a).no b }

abbrev pub known : Answers → Known
known t = known_in t.rows

-- a label that there can be
abbrev pub is_label : ℕ → Bool
is_label e = nat_le 1 e && nat_le e limit
