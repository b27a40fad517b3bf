-- What the rule takes: its favourite, where that is a candidate, and else the closest.
use Rattle.std.specs.Prelude.{ℕ, Bool, cond, ◌&&◌, nat_lt}
use Rattle.labels.specs.Sets.{has, highest_below}

-- f is a candidate: a label of the set c below e
abbrev pub is_candidate : ℕ → ℕ → ℕ → Bool
is_candidate f e c = nat_lt f e && has c f

abbrev pub favoured : ℕ → ℕ → ℕ → ℕ
favoured f e c = cond (is_candidate f e c) f (highest_below e c)
