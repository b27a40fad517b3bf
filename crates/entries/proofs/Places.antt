-- Values and their labels.
use Rattle.std.proofs.Common.{◌≡◌, ℕ, zero, suc, ◌≤◌, List, length, refl, arith}
use Rattle.std.specs.Option.{unwrap_or}
use Rattle.std.proofs.lemmas.List.{length-take-le}
use Rattle.std.proofs.lemmas.Option.{unwrap_or-slice_get}
use Rattle.labels.specs.Sets.{limit}
use Rattle.entries.specs.declared.table.Entries.{Entries}
use Rattle.entries.specs.Table.{values, entry_at, entry_or}

-- the value of a label that may have none
pub or_is : {V : Type 0} (vs : List V) (d : V) (e : ℕ) → unwrap_or (entry_at vs e) d ≡ entry_or vs d e
or_is vs d zero = refl
or_is vs d (suc k) = unwrap_or-slice_get vs k d

-- no more values than labels
pub values_few : {V : Type 0} (t : Entries V) → length (values t) ≤ limit
values_few t = omega (arith, length-take-le t.used t.places (omega arith))
