-- What follows from classes that hold Leaves.
use Rattle.std.specs.Prelude.{◌≡◌, List}
use Rattle.pt_ranges.specs.declared.handlers.Handler.{Handler}
use Rattle.pt_step_graph.specs.Graph.{bundles_of}
use Rattle.pt_closure.specs.Closure.{Pair}
use Rattle.pt_verify_leaves.specs.declared.holding.Holding.{Holding}
use Rattle.pt_verify_leaves.specs.Onto.{Knows, next_of}

pub record TellsNext (h : Holding) (next : Pair → List Pair) : Type 0 where
  pub rows : List Handler
  pub knows : Knows h.places.now rows h.takers.now
  pub is : (x : Pair) → next x ≡ next_of rows h.classes.now h.places.now (bundles_of h.members) x
