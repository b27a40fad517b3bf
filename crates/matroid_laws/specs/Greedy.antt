-- Going through a set upwards, and keeping each label that leaves the kept set independent.
use Rattle.std.specs.Prelude.{ℕ, zero, suc, Bool, cond, ◌&&◌}
use Rattle.labels.specs.Sets.{has, insert, full, card}
use Rattle.matroid_laws.specs.Matroids.{IsMatroid, Base, Rank}

-- the label e of s joins held, and an independent set comes of it
abbrev pub joins : (ℕ → Bool) → ℕ → ℕ → ℕ → Bool
joins independent s held e = has s e && independent (insert held e)

-- the label e joins k where it can
abbrev pub joined : (ℕ → Bool) → ℕ → ℕ → ℕ → ℕ
joined independent s k e = cond (joins independent s k e) (insert k e) k

-- upwards through the labels of s among 1..n, from the kept set k
unfoldable pub extended : (ℕ → Bool) → ℕ → ℕ → ℕ → ℕ
extended independent s k zero = k
extended independent s k (suc n) = joined independent s (extended independent s k n) (suc n)

-- from the empty set
abbrev pub greedy : ℕ → (ℕ → Bool) → ℕ → ℕ
greedy n independent s = extended independent s 0 n

-- the start for an offered set: through that set, then through 1..n (a label above n never joins: no independent set has one)
abbrev pub start : ℕ → (ℕ → Bool) → ℕ → ℕ
start n independent offered = extended independent (full n) (greedy n independent offered) n

-- ---- what is claimed

abbrev pub StartsAtBase : Type 0
StartsAtBase = (n : ℕ) (independent : ℕ → Bool) → IsMatroid n independent → (offered : ℕ) → Base n independent (start n independent offered)

abbrev pub GreedyRanks : Type 0
GreedyRanks = (n : ℕ) (independent : ℕ → Bool) → IsMatroid n independent → (s : ℕ) → Rank independent s (card (greedy n independent s))
