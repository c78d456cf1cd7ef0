-- Directed graphs, walks in them and cycles, and the components of which each has walks both ways between its vertices (Tarjan 1972).
use Rattle.std.specs.Prelude.{ℕ, ◌<◌, ◌≤◌, ◌≡◌, ◌⊎◌, List, length, Bool, true, false, Contains, slice_index_or}
use Rattle.pt_cycles.specs.declared.cycles.Cycles.{Cycles}
use Rattle.pt_cycles.specs.declared.cycles.Cycles.TheVariants as cycles

-- vertices are numbers below a size; what isn't below it is none
pub record Digraph : Type 0 where
  pub size : ℕ
  pub next : (vertex : ℕ) → List ℕ

pub record Edge (g : Digraph) (a b : ℕ) : Type 0 where
  pub from : a < g.size
  pub to : b < g.size
  pub listed : Contains (g.next a) b

pub data Walk (g : Digraph) : (from to : ℕ) → Type 0 where
  once : {a b : ℕ} → Edge g a b → Walk g a b
  more : {a b c : ℕ} → Walk g a b → Edge g b c → Walk g a c

abbrev pub OnCycle : Digraph → (vertex : ℕ) → Type 0
OnCycle g v = Walk g v v

-- a walk leads there, or it is the same vertex
abbrev pub Reaches : Digraph → (from to : ℕ) → Type 0
Reaches g a b = (a ≡ b) ⊎ Walk g a b

abbrev pub number_of : (table : List ℕ) → (vertex : ℕ) → ℕ
number_of table v = slice_index_or table v 0

-- numbers of the components: an edge leads to no greater number
pub record AreComponents (g : Digraph) (table : List ℕ) : Type 0 where
  pub long : length table ≡ g.size
  pub falls : (a b : ℕ) → Edge g a b → number_of table b ≤ number_of table a
  pub one : (a b : ℕ) → a < g.size → b < g.size → number_of table a ≡ number_of table b → Reaches g a b

-- they fall along each walk from a vertex below a count, so that none of these lies on a cycle
abbrev pub AreRanks : Digraph → (count : ℕ) → List ℕ → Type 0
AreRanks g count table = (a b : ℕ) → a < count → Walk g a b → number_of table b < number_of table a

-- of the vertices below a count the least on a cycle
pub record IsLeastOnCycle (g : Digraph) (count v : ℕ) : Type 0 where
  pub below : v < count
  pub round : OnCycle g v
  pub least : (u : ℕ) → u < v → OnCycle g u → ⊥

-- what an answer tells of the vertices below a count
abbrev pub TellsCycles : Digraph → (count : ℕ) → Cycles → Type 0
TellsCycles g count (cycles.Ranks table) = AreRanks g count table.items
TellsCycles g count (cycles.Least v) = IsLeastOnCycle g count v

-- an edge from a vertex leads to its own component
pub record LeadsWithin (g : Digraph) (table : List ℕ) (v : ℕ) : Type 0 where
  pub to : ℕ
  pub edge : Edge g v to
  pub same : number_of table to ≡ number_of table v

abbrev pub Stays : Bool → Digraph → (table : List ℕ) → (vertex : ℕ) → Type 0
Stays true g table v = LeadsWithin g table v
Stays false g table v = LeadsWithin g table v → ⊥
