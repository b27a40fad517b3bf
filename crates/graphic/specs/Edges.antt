-- The graph that the code holds.
use Rattle.std.specs.Prelude.{◌≡◌, ℕ, List, [], ◌∷◌, ◌++◌, map}
use Rattle.entries.specs.Table.{values}
use Rattle.graphic.specs.declared.edge.Edge.{Edge}
use Rattle.graphic.specs.declared.graph.Graphic.{Graphic}

-- the two points that an edge joins
abbrev pub ends_of : Edge → ℕ × ℕ
ends_of e = (e.a, e.b)

-- the ends of the edges in use, in the order of their labels
abbrev pub graph : Graphic → List (ℕ × ℕ)
graph g = map ends_of (values g.edges)

-- h is g and the edge from a to b, at the next label
pub record Extended (g : Graphic) (a b : ℕ) (h : Graphic) : Type 0 where
  pub points : h.points ≡ g.points
  pub edges : graph h ≡ graph g ++ ((a, b) ∷ [])
