-- A graph as the list of the ends of its edges: label e is the edge at e - 1.
use Rattle.std.specs.Prelude.{ℕ, zero, suc, Bool, cond, ◌&&◌, List, length, Some, None, Ok, Err, Option, Result, nat_lt, slice_index_or}
use Rattle.entry.specs.declared.EntryRefusal.{EntryRefusal}
use Rattle.entry.specs.declared.EntryRefusal.TheVariants.{OutOfRange, TooManyLabels}
use Rattle.labels.specs.Sets.{limit}
use Rattle.binary_laws.specs.Graphic.{graphic, meets}
use Rattle.graphic.specs.Points.{in_range}

-- the two ends of label e; 0 and 0 where there is no such label
abbrev pub ends : List (ℕ × ℕ) → ℕ → ℕ × ℕ
ends g zero = (0, 0)
ends g (suc k) = slice_index_or g k (0, 0)

-- the one end
abbrev pub first_end : List (ℕ × ℕ) → ℕ → ℕ
first_end g e = (ends g e).0

-- and the other
abbrev pub second_end : List (ℕ × ℕ) → ℕ → ℕ
second_end g e = (ends g e).1

-- s is a forest: an independent set of the graphic matroid
abbrev pub forest : List (ℕ × ℕ) → ℕ → Bool
forest g = graphic (length g) (first_end g) (second_end g)

-- how often the edges of t meet the point k; a loop meets its point twice
abbrev pub degree : List (ℕ × ℕ) → ℕ → ℕ → ℕ
degree g = meets (length g) (first_end g) (second_end g)

-- the ends of label e, if there is such a label
abbrev pub ends_at : List (ℕ × ℕ) → ℕ → Option (ℕ × ℕ)
ends_at g e = cond (in_range (length g) e) (Some (ends g e)) None

-- whether the edge from a to b may join a graph with p points and n edges, and else why not: a wrong point comes before a label too many
abbrev pub admitted : ℕ → ℕ → ℕ → ℕ → Result (Unit {0}) EntryRefusal
admitted p n a b = cond (in_range p a && in_range p b) (cond (nat_lt n limit) (Ok tt) (Err TooManyLabels)) (Err OutOfRange)
