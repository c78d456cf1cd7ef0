-- Lists of kinds that go along the edges of a graph (data flow over the slots of an operand stack).
use Rattle.std.specs.Prelude.{◌≡◌, ℕ, zero, suc, ◌<◌, List, [], ◌∷◌, ◌++◌, length, Contains, slice_index_or, slice_get, Bool, true, false, if◌then◌else◌, Option, Some, None, option_map, ◌+◌, ◌≤◌}
use Rattle.std.specs.List.{flat_map}
use Rattle.pt_instr.specs.declared.kinds.Kind.{Kind}
use Rattle.pt_instr.specs.Effects.{Kinds}
use Rattle.pt_instr.specs.Runs.{kinds_of}
use Rattle.pt_kinds.specs.Forest.{Begins, list_at}
use Rattle.pt_kind_flow.specs.declared.edges.Edge.{Edge}
use Rattle.pt_kind_flow.specs.declared.flow.Flow.{Flow}

-- the slot above those that are kept, where it is put on top
abbrev pub raised : Bool → Kinds → Kinds
raised false ks = []
raised true [] = []
raised true (k ∷ ks) = k ∷ []

-- so many of the lowest slots stay, and others lie above; of fewer slots all stay
abbrev pub led_by : (keeps : ℕ) → (given : Kinds) → (raises : Bool) → Kinds → Kinds
led_by zero given raises ks = given ++ raised raises ks
led_by (suc n) given raises [] = []
led_by (suc n) given raises (k ∷ ks) = k ∷ led_by n given raises ks

-- the kinds that an edge puts above
abbrev pub given : Edge → Kinds
given e = flat_map kinds_of e.given

-- how many slots a list must have so that what comes along the edge depends on no slot above them
abbrev pub reach : Edge → ℕ
reach e = e.keeps + (if e.raises then 1 else 0)

-- the edges that depend on fewer slots come later
abbrev pub Descends : List Edge → Type 0
Descends edges = (i j : ℕ) (e d : Edge) → i ≤ j → slice_get edges i ≡ Some e → slice_get edges j ≡ Some d
    → reach d ≤ reach e

-- the kinds to which an edge leads
abbrev pub led : Edge → Kinds → Kinds
led e ks = led_by e.keeps (given e) e.raises ks

abbrev pub kind_list : Option Kind → Kinds
kind_list (Some k) = k ∷ []
kind_list None = []

-- the slot that an edge puts on top
abbrev pub raised_from : Edge → Kinds → Option Kind
raised_from e ks = if e.raises then slice_get ks e.keeps else None

-- the edges from each vertex, and the kinds with which the first one starts
pub record Graph : Type 0 where
  pub edges : List (List Edge)
  pub first : Kinds

abbrev pub edges_at : List (List Edge) → (vertex : ℕ) → List Edge
edges_at edges v = slice_index_or edges v []

-- these kinds come to a vertex
pub data Comes (g : Graph) : (vertex : ℕ) → Kinds → Type 0 where
  start : Comes g 0 g.first
  goes : {v : ℕ} {ks : Kinds} {e : Edge} → Comes g v ks → Contains (edges_at g.edges v) e
      → Comes g e.to (led e ks)

pub record ComesSome (g : Graph) (vertex : ℕ) : Type 0 where
  pub kinds : Kinds
  pub comes : Comes g vertex kinds

-- two lists begin with these slots, and differ right above them
abbrev pub Part : (ks one other : Kinds) → Type 0
Part [] (k ∷ one) (l ∷ other) = k ≡ l → ⊥
Part (m ∷ ks) (k ∷ one) (l ∷ other) = (m ≡ k) × ((m ≡ l) × Part ks one other)
Part ks one other = ⊥

-- such a list comes itself to a vertex, or two come that part where it ends
pub data IsExact (g : Graph) (vertex : ℕ) (ks : Kinds) : Type 0 where
  whole : Comes g vertex ks → IsExact g vertex ks
  parts : {one other : Kinds} → Comes g vertex one → Comes g vertex other → Part ks one other
      → IsExact g vertex ks

-- all lists that come to a vertex begin with this one, and with none that is longer
pub record IsLongest (g : Graph) (vertex : ℕ) (ks : Kinds) : Type 0 where
  pub some : ComesSome g vertex
  pub exact : IsExact g vertex ks
  pub begins : (ls : Kinds) → Comes g vertex ls → Begins ks ls
  pub longest : (beginning : Kinds) → ((ls : Kinds) → Comes g vertex ls → Begins beginning ls)
      → Begins beginning ks

-- what a table has at a vertex
abbrev pub entry : {X : Type 0} → List (Option X) → (vertex : ℕ) → Option X
entry table v = slice_index_or table v None

abbrev pub graph : Flow → Graph
graph f = record { edges = f.edges; first = list_at f.forest f.first }

-- the beginning that is told of a vertex
abbrev pub told : Flow → (vertex : ℕ) → Option Kinds
told f v = option_map (list_at f.forest) (entry f.table.items v)

-- of each vertex the longest list is told with which all begin that come there; None where none do
pub record AreLongest (f : Flow) : Type 0 where
  pub sound : (v : ℕ) (ks : Kinds) → told f v ≡ Some ks → IsLongest (graph f) v ks
  pub whole : (v : ℕ) (ks : Kinds) → v < length f.edges → Comes (graph f) v ks
      → told f v ≡ None → ⊥
