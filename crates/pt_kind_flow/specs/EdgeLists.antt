-- Lists of edges that lie one behind the other.
use Rattle.std.specs.Prelude.{ℕ, ◌≤◌, List, [], ◌∷◌, slice_range}
use Rattle.pt_kind_flow.specs.declared.edges.Edge.{Edge}
use Rattle.pt_kind_flow.specs.declared.edge_lists.Span.{Span}

abbrev pub edges_in : List Edge → Span → List Edge
edges_in edges s = slice_range edges s.from s.to

-- there are so many edges that none of these ends behind the last
abbrev pub AreWithin : (count : ℕ) → List Span → Type 0
AreWithin count [] = Unit {0}
AreWithin count (s ∷ spans) = ((s.from ≤ s.to) × (s.to ≤ count)) × AreWithin count spans
