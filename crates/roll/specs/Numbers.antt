-- The numbers of the refusals.
use Rattle.std.specs.Prelude.{ℕ}
use Rattle.roll.specs.declared.refusal.RollRefusal.{RollRefusal}
use Rattle.roll.specs.declared.refusal.RollRefusal.TheVariants.{Full}

-- the number that a refusal is known by
abbrev pub roll_number : RollRefusal → ℕ
roll_number Full = 11
