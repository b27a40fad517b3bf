-- Shifts, their sums modulo 2 ^ 64, and a table of them.
use Rattle.std.specs.Prelude.{ℕ, List, ℤ, pos, ◌+ℤ◌, neg_ℤ}
use Rattle.std.proofs.Common.{lit<}
use Rattle.std.specs.Int.{int_wrap, w64}
use Rattle.std.proofs.lemmas.Int.{SFits-int_wrap}
use Rattle.measure.specs.Table.{worths_of, worth_at}
use Rattle.measure.specs.declared.table.Worths.{Worths}
use Rattle.measure.specs.declared.value.Shift.{Shift}

-- the shift by these numbers, each modulo 2 ^ 64: by the numbers themselves where they fit 64 bits
abbrev pub shift_of : ℤ → ℤ → Shift
shift_of a b = record { across = int_wrap w64 a; along = int_wrap w64 b; wide = (SFits-int_wrap w64 a).sfits; long = (SFits-int_wrap w64 b).sfits }

-- no shift at all
abbrev pub shift_zero : Shift
shift_zero = record { across = pos 0; along = pos 0; wide = lit< tt; long = lit< tt }

-- one shift after another
abbrev pub shift_sum : Shift → Shift → Shift
shift_sum a b = shift_of (a.across +ℤ b.across) (a.along +ℤ b.along)

-- the shift back
abbrev pub shift_opposite : Shift → Shift
shift_opposite a = shift_of (neg_ℤ a.across) (neg_ℤ a.along)

-- a table of shifts, since specs have no name for an alias
abbrev pub Shifts : Type 0
Shifts = Worths Shift

-- the shifts of the labels 1, 2, ..
abbrev pub entries_of : Shifts → List Shift
entries_of m = worths_of m

-- the shift of a label; none where the label has no entry
abbrev pub entry_at : List Shift → ℕ → Shift
entry_at entries e = worth_at shift_zero entries e
