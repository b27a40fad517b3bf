-- How much can be entered, beside the limit on labels.
use Rattle.std.specs.Prelude.{ℕ}

-- the most points that a graph can have
abbrev pub most_points : ℕ
most_points = 32
