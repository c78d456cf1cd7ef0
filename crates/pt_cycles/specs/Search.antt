-- What the search for components knows while it goes on: a path of clusters, each with walks both ways between its vertices (Gabow 2000).
use Rattle.std.specs.Prelude.{◌≡◌, ◌⊎◌, ℕ, ◌+◌, ◌<◌, ◌≤◌, suc, List, [], ◌∷◌, ◌++◌, length, take, Contains, slice_get, slice_index_or, slice_set, Some}
use Rattle.pt_cycles.specs.declared.search.State.{State}
use Rattle.pt_cycles.specs.declared.search.State.TheVariants.{New, OnPath, Done}
use Rattle.pt_cycles.specs.declared.search.Cluster.{Cluster}
use Rattle.pt_cycles.specs.declared.search.Search.{Search}
use Rattle.pt_cycles.specs.Graphs.{Digraph, Edge, Reaches, number_of}

abbrev pub at : List ℕ → (place : ℕ) → ℕ
at xs i = slice_index_or xs i 0

abbrev pub state_of : List State → (vertex : ℕ) → State
state_of states v = slice_index_or states v New

-- an edge from the path is still due, in the work of its cluster
pub record IsDue (work : List ℕ) (clusters : List Cluster) (i w : ℕ) : Type 0 where
  pub place : ℕ
  pub inside : place < length work
  pub is : at work place ≡ w
  pub above : (b : Cluster) → Contains clusters b → b.path ≤ i → b.work ≤ place

-- or it leads to the path, not before its cluster
pub record LeadsOn (states : List State) (clusters : List Cluster) (i w : ℕ) : Type 0 where
  pub place : ℕ
  pub is : state_of states w ≡ OnPath place
  pub above : (b : Cluster) → Contains clusters b → b.path ≤ i → b.path ≤ place

-- or to a component that has its number
pub record IsDone (states : List State) (w most : ℕ) : Type 0 where
  pub component : ℕ
  pub is : state_of states w ≡ Done component
  pub low : component ≤ most

abbrev pub IsSeen : (states : List State) (work : List ℕ) (clusters : List Cluster) (next i w : ℕ) → Type 0
IsSeen states work clusters next i w = IsDue work clusters i w ⊎ (LeadsOn states clusters i w ⊎ IsDone states w next)

-- what is due comes from the cluster in whose work it is
pub record HasSource (g : Digraph) (path : List ℕ) (clusters : List Cluster) (m w : ℕ) : Type 0 where
  pub place : ℕ
  pub inside : place < length path
  pub listed : Contains (g.next (at path place)) w
  pub above : (b : Cluster) → Contains clusters b → b.work ≤ m → b.path ≤ place
  pub below : (b : Cluster) → Contains clusters b → m < b.work → place < b.path

abbrev pub Rises : List Cluster → Type 0
Rises clusters = (i j : ℕ) (b d : Cluster) → i < j → slice_get clusters i ≡ Some b → slice_get clusters j ≡ Some d → (b.path < d.path) × (b.work ≤ d.work)

pub record IsCovered (clusters : List Cluster) (i : ℕ) : Type 0 where
  pub cluster : Cluster
  pub among : Contains clusters cluster
  pub low : cluster.path ≤ i

-- no other cluster starts between
abbrev pub IsStart : List Cluster → (b : Cluster) → (place : ℕ) → Type 0
IsStart clusters b j = (d : Cluster) → Contains clusters d → (d.path ≤ b.path) ⊎ (j < d.path)

pub record Open (g : Digraph) (states : List State) (path work : List ℕ) (clusters : List Cluster) (next : ℕ) : Type 0 where
  pub long : length states ≡ g.size
  pub placed : (i : ℕ) → i < length path → state_of states (at path i) ≡ OnPath i
  pub inside : (i : ℕ) → i < length path → at path i < g.size
  pub found : (v i : ℕ) → state_of states v ≡ OnPath i → (i < length path) × (at path i ≡ v)
  pub starts : (b : Cluster) → Contains clusters b → (b.path < length path) × (b.work ≤ length work)
  pub rises : Rises clusters
  pub covered : (i : ℕ) → i < length path → IsCovered clusters i
  pub forward : (i j : ℕ) → i ≤ j → j < length path → Reaches g (at path i) (at path j)
  pub back : (b : Cluster) → Contains clusters b → (j : ℕ) → b.path ≤ j → j < length path → IsStart clusters b j → Reaches g (at path j) (at path b.path)
  pub sources : (m : ℕ) → m < length work → HasSource g path clusters m (at work m)
  pub edges : (i w : ℕ) → i < length path → w < g.size → Contains (g.next (at path i)) w → IsSeen states work clusters next i w
  pub low : (v k : ℕ) → state_of states v ≡ Done k → k < next
  pub ended : (v w k : ℕ) → state_of states v ≡ Done k → Edge g v w → IsDone states w k
  pub one : (u v k : ℕ) → state_of states u ≡ Done k → state_of states v ≡ Done k → Reaches g u v

-- no cluster is behind the last, and none above what is due
pub record IsLast (work : List ℕ) (clusters : List Cluster) : Type 0 where
  pub cluster : Cluster
  pub among : Contains clusters cluster
  pub high : (b : Cluster) → Contains clusters b → b.path ≤ cluster.path
  pub due : (b : Cluster) → Contains clusters b → b.work ≤ length work

abbrev pub IsOpen : Digraph → Search → Type 0
IsOpen g s = Open g s.states.items s.path.items s.work.items s.clusters.items s.next

-- how much there is left to do
abbrev pub dues : (next : ℕ → List ℕ) → (from : ℕ) → List State → ℕ
dues next k [] = 0
dues next k (New ∷ states) = (length (next k) + 1) + dues next (suc k) states
dues next k (OnPath i ∷ states) = dues next (suc k) states
dues next k (Done i ∷ states) = dues next (suc k) states

abbrev pub weight : Digraph → (states : List State) (work : List ℕ) (clusters : List Cluster) → ℕ
weight g states work clusters = dues g.next 0 states + (length work + length clusters)

-- no vertex is new again
abbrev pub Keeps : (old new : List State) → Type 0
Keeps old new = (v : ℕ) → state_of new v ≡ New → state_of old v ≡ New

abbrev pub cluster : (path work : ℕ) → Cluster
cluster p w = record { path = p; work = w }

-- a vertex is put on the path, a cluster of its own
pub record Visited (g : Digraph) (v : ℕ) (old new : Search) : Type 0 where
  pub states : new.states.items ≡ slice_set old.states.items v (OnPath (length old.path.items))
  pub path : new.path.items ≡ old.path.items ++ v ∷ []
  pub work : new.work.items ≡ old.work.items ++ g.next v
  pub clusters : new.clusters.items ≡ old.clusters.items ++ cluster (length old.path.items) (length old.work.items) ∷ []
  pub next : new.next ≡ old.next

-- what stands on the path from one place up to another
pub record StandsWithin (start end : ℕ) (path : List ℕ) (v : ℕ) : Type 0 where
  pub place : ℕ
  pub from : start ≤ place
  pub before : place < end
  pub is : at path place ≡ v

-- this is put into a component
pub record IsPut (component start end : ℕ) (path : List ℕ) (old new : List State) : Type 0 where
  pub long : length new ≡ length old
  pub done : (i : ℕ) → start ≤ i → i < end → state_of new (at path i) ≡ Done component
  pub each : (v : ℕ) → (state_of new v ≡ state_of old v) ⊎ StandsWithin start end path v

-- the last of the path is a component
pub record Closed (start : ℕ) (old new : Search) : Type 0 where
  pub path : new.path.items ≡ take start old.path.items
  pub put : IsPut old.next start (length old.path.items) old.path.items old.states.items new.states.items
  pub work : new.work.items ≡ old.work.items
  pub clusters : new.clusters.items ≡ old.clusters.items
  pub next : new.next ≡ old.next + 1

-- clusters behind a place are taken away
pub record IsCut (place : ℕ) (old new : List Cluster) : Type 0 where
  pub from : (b : Cluster) → Contains new b → Contains old b
  pub into : (b : Cluster) → Contains old b → Contains new b ⊎ (place < b.path)
  pub low : (b : Cluster) → Contains new b → b.path ≤ place
  pub rises : Rises new
  pub short : length new ≤ length old

pub record CutSoFar (place : ℕ) (old new : List Cluster) : Type 0 where
  pub from : (b : Cluster) → Contains new b → Contains old b
  pub into : (b : Cluster) → Contains old b → Contains new b ⊎ (place < b.path)
  pub rises : Rises new
  pub short : length new ≤ length old

pub record Stepped (g : Digraph) (old new : Search) : Type 0 where
  pub known : IsOpen g new
  pub keeps : Keeps old.states.items new.states.items
  pub lighter : weight g new.states.items new.work.items new.clusters.items ≤ weight g old.states.items old.work.items old.clusters.items

pub record Settled (g : Digraph) (old new : Search) : Type 0 where
  pub known : IsOpen g new
  pub empty : new.clusters.items ≡ []
  pub keeps : Keeps old.states.items new.states.items

-- the vertices before one have the numbers of their components
pub record Before (g : Digraph) (n : ℕ) (s : Search) : Type 0 where
  pub known : IsOpen g s
  pub empty : s.clusters.items ≡ []
  pub seen : (v : ℕ) → v < n → state_of s.states.items v ≡ New → ⊥

-- 0 for what is in none
abbrev pub number_in : State → ℕ
number_in (Done k) = k
number_in s = 0

-- a table has the number of each vertex that is in a component
pub record HasNumbers (states : List State) (table : List ℕ) : Type 0 where
  pub long : length table ≡ length states
  pub each : (v k : ℕ) → state_of states v ≡ Done k → number_of table v ≡ k
