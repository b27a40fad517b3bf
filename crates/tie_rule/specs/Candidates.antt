-- The candidates: the labels of a set below a label.
use Rattle.std.specs.Prelude.{ℕ, ◌-◌, Bool, not}
use Rattle.labels.specs.Sets.{has, no_label, first_passing}

-- the lowest label of s below e, or 0
abbrev pub lowest_below : ℕ → ℕ → ℕ
lowest_below e s = first_passing (has s) (e - 1)

-- s has a label below e
abbrev pub some_below : ℕ → ℕ → Bool
some_below e s = not (no_label (has s) (e - 1))
