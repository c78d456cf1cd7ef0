-- What the search for the beginnings of lists knows while it goes on.
use Rattle.std.specs.Prelude.{◌≡◌, ◌⊎◌, ℕ, ◌<◌, ◌≤◌, List, [], length, Contains, slice_set as set, Option, Some, Bool, true, false, nat_le, None}
use Rattle.std.specs.BinaryHeap.{heap_items}
use Rattle.pt_instr.specs.Effects.{Kinds}
use Rattle.pt_kinds.specs.declared.forest.Forest.{Forest}
use Rattle.pt_kinds.specs.Forest.{Begins, IsForest, IsInside, list_at}
use Rattle.pt_kind_flow.specs.declared.edges.Edge.{Edge}
use Rattle.pt_kind_flow.specs.declared.flow.Arrival.{Arrival}
use Rattle.pt_kind_flow.specs.declared.flow.Flow.{Flow}
use Rattle.pt_kind_flow.specs.Flow.{led, Graph, edges_at, IsExact, entry, graph, reach, Descends}

-- a forest keeps its lists while it grows
pub record Grows (old new : Forest) : Type 0 where
  pub forest : IsForest new
  pub kept : (i : ℕ) → IsInside old i → list_at new i ≡ list_at old i
  pub more : length old.nodes.items ≤ length new.nodes.items

pub record Known (f : Forest) (table : List (Option ℕ)) (vertex : ℕ) (ks : Kinds) : Type 0 where
  pub list : ℕ
  pub is : entry table vertex ≡ Some list
  pub begins : Begins (list_at f list) ks

pub record Due (f : Forest) (work : List Arrival) (vertex : ℕ) (ks : Kinds) : Type 0 where
  pub arrival : Arrival
  pub among : Contains work arrival
  pub to : arrival.to ≡ vertex
  pub begins : Begins (list_at f arrival.list) ks

-- kinds come to where a beginning of them is known or due, or to no vertex of the graph
abbrev pub Seen : Graph → Forest → (table : List (Option ℕ)) → (work : List Arrival)
    → (vertex : ℕ) → Kinds → Type 0
Seen g f table work v ks = (length g.edges ≤ v) ⊎ (Known f table v ks ⊎ Due f work v ks)

pub record Open (g : Graph) (f : Forest) (table : List (Option ℕ)) (work : List Arrival)
    : Type 0 where
  pub forest : IsForest f
  pub long : length table ≡ length g.edges
  pub inside : (v i : ℕ) → entry table v ≡ Some i → IsInside f i
  pub due_inside : (a : Arrival) → Contains work a → IsInside f a.list
  pub start : Seen g f table work 0 g.first
  pub above : (v i : ℕ) → entry table v ≡ Some i → IsExact g v (list_at f i)
  pub due_above : (a : Arrival) → Contains work a → IsExact g a.to (list_at f a.list)
  pub goes_on : (v i : ℕ) → entry table v ≡ Some i → (e : Edge)
      → Contains (edges_at g.edges v) e → Seen g f table work e.to (led e (list_at f i))

-- an arrival along an edge from where a list is known
pub record IsLed (old new : Forest) (list : ℕ) (e : Edge) (a : Arrival) : Type 0 where
  pub to : a.to ≡ e.to
  pub inside : IsInside new a.list
  pub is : list_at new a.list ≡ led e (list_at old list)

-- an edge depends on no slot above those that were told before, so many of them
abbrev pub is_told : Edge → Option ℕ → Bool
is_told e None = false
is_told e (Some told) = nat_le (reach e) told

-- arrivals come to the work along the edges of a vertex, but for those that it had before
pub record Leads (old new : Forest) (edges : List Edge) (list : ℕ) (told : Option ℕ)
    (work work' : List Arrival) : Type 0 where
  pub grows : Grows old new
  pub kept : (a : Arrival) → Contains work a → Contains work' a
  pub came : (a : Arrival) → Contains work' a → Contains work a
      ⊎ ((e : Edge) × (Contains edges e × IsLed old new list e a))
  pub all : (e : Edge) → Contains edges e
      → (is_told e told ≡ true) ⊎ ((a : Arrival) × (Contains work' a × IsLed old new list e a))

abbrev pub AllDescend : Graph → Type 0
AllDescend g = (v : ℕ) → Descends (edges_at g.edges v)

-- a search between two of its stages
pub record IsFlow (f : Flow) : Type 0 where
  pub opens : Open (graph f) f.forest f.table.items (heap_items f.work)
  pub first : IsInside f.forest f.first
  pub sorted : AllDescend (graph f)
  pub none : heap_items f.work ≡ []

pub record IsSearch (f : Flow) : Type 0 where
  pub opens : Open (graph f) f.forest f.table.items (heap_items f.work)
  pub first : IsInside f.forest f.first
  pub sorted : AllDescend (graph f)

-- the first vertex alone has its list
pub record IsFirstTable (count first : ℕ) (table : List (Option ℕ)) : Type 0 where
  pub long : length table ≡ count
  pub here : 0 < count → entry table 0 ≡ Some first
  pub only : (v i : ℕ) → entry table v ≡ Some i → (v ≡ 0) × (first ≡ i)

-- a list is told of a vertex, and leads along its edges
pub record GoneOn (old new : Flow) (vertex list : ℕ) (told : Option ℕ) : Type 0 where
  pub leads : Leads old.forest new.forest (edges_at (graph old).edges vertex) list told
      (heap_items old.work) (heap_items new.work)
  pub table : new.table.items ≡ set old.table.items vertex (Some list)
  pub edges : new.edges ≡ old.edges
  pub first : new.first ≡ old.first

-- a search that goes on over the same graph
pub record GoesOn (old new : Flow) : Type 0 where
  pub search : IsSearch new
  pub same : graph new ≡ graph old

pub record Settled (old new : Flow) : Type 0 where
  pub flow : IsFlow new
  pub same : graph new ≡ graph old

-- the vertex has its edges now
pub record Opens (old new : Flow) (vertex : ℕ) (edges : List Edge) : Type 0 where
  pub flow : IsFlow new
  pub edges_are : (graph new).edges ≡ set (graph old).edges vertex edges
  pub first : (graph new).first ≡ (graph old).first
