-- Points and labels are numbered from 1.
use Rattle.std.specs.Prelude.{ℕ, Bool, ◌&&◌, nat_le}
pub use Rattle.entry.specs.Limits.{most_points}

-- x is one of 1..n
abbrev pub in_range : ℕ → ℕ → Bool
in_range n x = nat_le 1 x && nat_le x n
