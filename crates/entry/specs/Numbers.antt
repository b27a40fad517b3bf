-- The numbers and the words of the refusals.
use Rattle.std.specs.Prelude.{ℕ, List, codes}
use Rattle.entry.specs.declared.EntryRefusal.{EntryRefusal}
use Rattle.entry.specs.declared.EntryRefusal.TheVariants.{OutOfRange, TooManyLabels}

-- the number that a refusal is known by
abbrev pub entry_number : EntryRefusal → ℕ
entry_number OutOfRange = 6
entry_number TooManyLabels = 7

-- what it says
abbrev pub entry_text : EntryRefusal → List ℕ
entry_text OutOfRange = codes "out of range"
entry_text TooManyLabels = codes "a label too many"
