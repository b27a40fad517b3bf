-- The small rigs, one table.
use Rattle.std.specs.Prelude.{ℕ, zero, suc, List, [], ◌∷◌, length}
use Rattle.std.specs.List.{AllByRecursion}
use Rattle.labels.specs.Sets.{highest_below}
use Rattle.tie_rule.specs.Candidates.{lowest_below}
use Rattle.binary_laws.specs.Binary.{binary}
use Rattle.graphic.specs.Graphs.{forest}
use Rattle.layer_laws.specs.Layers.{dual, truncated, minor}
use Rattle.small_rigs.specs.Cases.{Rig, Case, lists, starts, has_bases, set_of, Holds}

-- the graphic matroid of a list of edges, each by its two points
abbrev pub graph_of : List (ℕ × ℕ) → Rig
graph_of edges = record { n = length edges; independent = forest edges }

-- edges between the points 1 and 2, 2 and 3, 1 and 3
abbrev pub triangle : Rig
triangle = graph_of ((1, 2) ∷ ((2, 3) ∷ ((1, 3) ∷ [])))

-- a square with a diagonal, in this order of its edges
abbrev pub kite : Rig
kite = graph_of ((1, 3) ∷ ((2, 3) ∷ ((1, 2) ∷ ((1, 4) ∷ ((2, 4) ∷ [])))))

-- one point, and no edge
abbrev pub point : Rig
point = graph_of []

-- the words of three labels: the places 1, 2, and both
abbrev pub three_words : ℕ → ℕ
three_words zero = 0
three_words (suc zero) = set_of (1 ∷ [])
three_words (suc (suc zero)) = set_of (2 ∷ [])
three_words (suc (suc (suc k))) = set_of (1 ∷ (2 ∷ []))

abbrev pub triangle_dual : Rig
triangle_dual = record { n = 3; independent = dual 3 triangle.independent }

abbrev pub triangle_capped : Rig
triangle_capped = record { n = 3; independent = truncated triangle.independent 1 }

abbrev pub triangle_pinned : Rig
triangle_pinned = record { n = 3; independent = minor 3 triangle.independent (set_of (3 ∷ [])) 0 }

abbrev pub triangle_of_words : Rig
triangle_of_words = record { n = 3; independent = binary 3 three_words }

-- lists of labels
abbrev pub all3 : List ℕ
all3 = 1 ∷ (2 ∷ (3 ∷ []))

abbrev pub all5 : List ℕ
all5 = 1 ∷ (2 ∷ (3 ∷ (4 ∷ (5 ∷ []))))

abbrev pub only : ℕ → List ℕ
only a = a ∷ []

abbrev pub pair : ℕ → ℕ → List ℕ
pair a b = a ∷ (b ∷ [])

abbrev pub triple : ℕ → ℕ → ℕ → List ℕ
triple a b c = a ∷ (b ∷ (c ∷ []))

abbrev pub table : List Case
table =
    lists triangle highest_below [] all3 (pair 1 2 ∷ (pair 1 3 ∷ (pair 2 3 ∷ [])))
    ∷ (lists triangle lowest_below [] all3 (pair 1 2 ∷ (pair 2 3 ∷ (pair 1 3 ∷ [])))
    ∷ (starts triangle (only 3) (pair 1 3)
    ∷ (starts triangle all3 (pair 1 2)
    ∷ (lists triangle highest_below (pair 1 2) (only 2) (pair 1 2 ∷ [])
    ∷ (lists triangle highest_below (pair 1 2) (only 3) (pair 1 2 ∷ (pair 1 3 ∷ (pair 2 3 ∷ [])))
    ∷ (lists kite highest_below (triple 1 3 4) all5
    (triple 1 3 4 ∷ (triple 2 3 4 ∷ (triple 1 2 4 ∷ (triple 1 2 5 ∷ (triple 1 3 5 ∷ (triple 2 3 5 ∷ (triple 2 4 5 ∷ (triple 1 4 5 ∷ []))))))))
    ∷ (lists point highest_below [] [] ([] ∷ [])
    ∷ (has_bases triangle_dual (only 3 ∷ (only 2 ∷ (only 1 ∷ [])))
    ∷ (has_bases triangle_capped (only 3 ∷ (only 2 ∷ (only 1 ∷ [])))
    ∷ (has_bases triangle_pinned (only 2 ∷ (only 1 ∷ []))
    ∷ (has_bases triangle_of_words (pair 2 3 ∷ (pair 1 3 ∷ (pair 1 2 ∷ [])))
    ∷ (has_bases triangle (pair 2 3 ∷ (pair 1 3 ∷ (pair 1 2 ∷ [])))
    ∷ []))))))))))))

-- every case of the table holds
abbrev pub SmallRigs : Type 0
SmallRigs = AllByRecursion Holds table
