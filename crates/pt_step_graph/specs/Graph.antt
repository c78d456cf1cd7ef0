-- The graph of steps. Its vertices are the places, the bundles, and the stretches of places in which handler rows lie, level by level: a place leads to
-- its bundle and to its least stretch, a stretch to the targets of its rows and to the one above.
use Rattle.std.specs.Prelude.{Vec, ◌≡◌, ℕ, ◌+◌, ◌-◌, ◌/◌, List, [], ◌∷◌, ◌++◌, length, map, nat_lt, slice_index_or, if◌then◌else◌, Option, Some, None}
use Rattle.pt_ranges.specs.declared.handlers.Handler.{Handler}
use Rattle.pt_sizes.specs.Flow.{entry}
use Rattle.pt_sizes.specs.Waiting.{Level, stretch_of, levels_of, Index}
use Rattle.pt_cycles.specs.Graphs.{Digraph}
use Rattle.pt_step_graph.specs.declared.exits.Exits.{Exits}
use Rattle.pt_step_graph.specs.declared.graph.StepGraph.{StepGraph}
use Rattle.pt_step_graph.specs.Steps.{own, Ways}

-- those of a list that are places
abbrev pub within : (count : ℕ) → List ℕ → List ℕ
within count [] = []
within count (r ∷ rs) = if nat_lt r count then r ∷ within count rs else within count rs

abbrev pub targets : (count : ℕ) → List Handler → List ℕ
targets count rows = within count (map (λ row. row.target.0) rows)

abbrev pub held_next : (count bundles : ℕ) → Option ℕ → List ℕ
held_next count bundles None = []
held_next count bundles (Some c) = if nat_lt c bundles then (count + c) ∷ [] else []

abbrev pub place_next : (count bundles first pc : ℕ) → Option Exits → List ℕ
place_next count bundles first pc None = []
place_next count bundles first pc (Some e) = within count (own e pc) ++ (held_next count bundles e.held ++ (first + pc) ∷ [])

abbrev pub bundle_next : (count : ℕ) → (bundles : List (List ℕ)) → (number : ℕ) → List ℕ
bundle_next count bundles c = within count (slice_index_or bundles c [])

-- half as far on the level above, if there is one
abbrev pub above_next : (first : ℕ) → List Level → (stretch : ℕ) → List ℕ
above_next first [] i = []
above_next first (level ∷ levels) i = (first + i / 2) ∷ []

abbrev pub stretch_next : (count first : ℕ) → List Level → (stretch : ℕ) → List ℕ
stretch_next count first [] i = []
stretch_next count first (level ∷ levels) i =
    if nat_lt i (length level)
    then targets count (stretch_of level i) ++ above_next (first + length level) levels i
    else stretch_next count (first + length level) levels (i - length level)

abbrev pub width : List Level → ℕ
width [] = 0
width (level ∷ levels) = length level + width levels

abbrev pub next_of : (exits : List (Option Exits)) → (bundles : List (List ℕ)) → List Level → (vertex : ℕ) → List ℕ
next_of exits bundles levels v =
    if nat_lt v (length exits) then place_next (length exits) (length bundles) (length exits + length bundles) v (entry exits v)
    else if nat_lt v (length exits + length bundles) then bundle_next (length exits) bundles (v - length exits)
    else stretch_next (length exits) (length exits + length bundles) levels (v - (length exits + length bundles))

abbrev pub bundles_of : {X Y : Type 0} → Vec (Vec ℕ X) Y → List (List ℕ)
bundles_of bundles = map (λ b. b.items) bundles.items

abbrev pub ways : {X Y Z : Type 0} → Vec (Option Exits) X → Vec (Vec ℕ Y) Z → List Handler → Ways
ways exits bundles rows = record { exits = exits.items; bundles = bundles_of bundles; rows = rows }

abbrev pub digraph : StepGraph → Digraph
digraph g = record { size = g.size; next = next_of g.exits.items (bundles_of g.bundles) (levels_of g.waiting.levels) }

-- a graph has the steps between places
pub record HasSteps (w : Ways) (g : StepGraph) : Type 0 where
  pub exits : g.exits.items ≡ w.exits
  pub bundles : bundles_of g.bundles ≡ w.bundles
  pub rows : Index w.rows (length w.exits) (levels_of g.waiting.levels)
  pub size : g.size ≡ (length w.exits + length w.bundles) + width (levels_of g.waiting.levels)
