-- Classes of numbers on levels: what pairs join, and the links of a forest that tell it on each level (Kruskal 1956).
use Rattle.std.specs.Prelude.{◌≡◌, ◌⊎◌, ◌↔◌, ℕ, ◌<◌, ◌≤◌, List, length, Contains, slice_index_or}
use Rattle.pt_joins.specs.declared.joins.Join.{Join}
use Rattle.pt_joins.specs.declared.joins.Node.{Node}

-- the least equivalence that has a relation
pub data Least (R : (one other : ℕ) → Type 0) : (one other : ℕ) → Type 0 where
  related : {a b : ℕ} → R a b → Least R a b
  same : {a : ℕ} → Least R a a
  back : {a b : ℕ} → Least R a b → Least R b a
  along : {a b c : ℕ} → Least R a b → Least R b c → Least R a c

-- a pair is joined on a level
pub data IsPair (joins : List Join) (level : ℕ) : (one other : ℕ) → Type 0 where
  paired : {j : Join} → Contains joins j → level < j.levels → IsPair joins level j.one j.other

abbrev pub Joined : (joins : List Join) → (level one other : ℕ) → Type 0
Joined joins level one other = Least (IsPair joins level) one other

abbrev pub AreWithin : (count : ℕ) → List Join → Type 0
AreWithin count joins = (j : Join) → Contains joins j → (j.one < count) × (j.other < count)

abbrev pub no_node : Node
no_node = record { parent = 0; levels = 0; below = 0 }

abbrev pub node_at : List Node → ℕ → Node
node_at nodes i = slice_index_or nodes i no_node

-- the number to which the links of a level lead
pub data Root (nodes : List Node) (level : ℕ) : (number root : ℕ) → Type 0 where
  top : {i : ℕ} → i < length nodes → (node_at nodes i).levels ≤ level → Root nodes level i i
  link : {i r : ℕ} → i < length nodes → level < (node_at nodes i).levels
      → Root nodes level (node_at nodes i).parent r → Root nodes level i r

pub record HasRoot (nodes : List Node) (level number : ℕ) : Type 0 where
  pub root : ℕ
  pub is : Root nodes level number root

pub record Same (nodes : List Node) (level one other : ℕ) : Type 0 where
  pub root : ℕ
  pub one_is : Root nodes level one root
  pub other_is : Root nodes level other root

-- more numbers lie below the end of a link
pub record IsForest (nodes : List Node) : Type 0 where
  pub inside : (i : ℕ) → 0 < (node_at nodes i).levels → (node_at nodes i).parent < length nodes
  pub grows : (i : ℕ) → 0 < (node_at nodes i).levels
      → (node_at nodes i).below < (node_at nodes (node_at nodes i).parent).below
  pub bound : (i : ℕ) → (node_at nodes i).below < 18446744073709551616
  pub rooted : (level i : ℕ) → i < length nodes → HasRoot nodes level i

-- on each level two numbers have one root just where the pairs join them
pub record TellsJoins (joins : List Join) (count : ℕ) (nodes : List Node) : Type 0 where
  pub long : length nodes ≡ count
  pub forest : IsForest nodes
  pub within : AreWithin count joins
  pub exact : (level i j r s : ℕ) → Root nodes level i r → Root nodes level j s
      → (r ≡ s) ↔ Joined joins level i j

-- while it is made

pub record IsTop (nodes : List Node) (i : ℕ) : Type 0 where
  pub inside : i < length nodes
  pub none : (node_at nodes i).levels ≡ 0

abbrev pub IsLow : List Node → (lower upper : ℕ) → Type 0
IsLow nodes lower upper = (node_at nodes lower).below ≤ (node_at nodes upper).below

-- no link has fewer levels
abbrev pub AreLow : List Node → (levels : ℕ) → Type 0
AreLow nodes levels = (i : ℕ) → 0 < (node_at nodes i).levels → levels ≤ (node_at nodes i).levels

pub record Links (old new : List Node) (lower upper levels : ℕ) : Type 0 where
  pub long : length new ≡ length old
  pub parent : (node_at new lower).parent ≡ upper
  pub is : (node_at new lower).levels ≡ levels
  pub other_parents : (i : ℕ) → (i ≡ lower → ⊥) → (node_at new i).parent ≡ (node_at old i).parent
  pub other_levels : (i : ℕ) → (i ≡ lower → ⊥) → (node_at new i).levels ≡ (node_at old i).levels
  pub other_below : (i : ℕ) → (i ≡ upper → ⊥) → (node_at new i).below ≡ (node_at old i).below
  pub more : (node_at old upper).below < (node_at new upper).below
  pub bound : (node_at new upper).below < 18446744073709551616

-- two numbers are in the classes of a pair
pub data Bridges (nodes : List Node) (join : Join) (level i j : ℕ) : Type 0 where
  onward : Same nodes level i join.one → Same nodes level join.other j → Bridges nodes join level i j
  backward : Same nodes level i join.other → Same nodes level join.one j → Bridges nodes join level i j

pub record AfterJoin (old new : List Node) (join : Join) : Type 0 where
  pub forest : IsForest new
  pub long : length new ≡ length old
  pub low : AreLow new join.levels
  pub keeps : (level i j : ℕ) → Same old level i j → Same new level i j
  pub joins : (level : ℕ) → level < join.levels → Same new level join.one join.other
  -- and nothing else
  pub only : (level i j : ℕ) → Same new level i j
      → Same old level i j ⊎ ((level < join.levels) × Bridges old join level i j)

-- the fewest levels first
abbrev pub Rises : List Join → Type 0
Rises joins = (m n : ℕ) (j : Join) → m ≤ n → n < length joins
    → (slice_index_or joins m j).levels ≤ (slice_index_or joins n j).levels

pub record IsByLevels (joins sorted : List Join) : Type 0 where
  pub rises : Rises sorted
  pub into : (j : Join) → Contains joins j → Contains sorted j
  pub from : (j : Join) → Contains sorted j → Contains joins j

pub record AreAlone (count : ℕ) (nodes : List Node) : Type 0 where
  pub long : length nodes ≡ count
  pub parents : (i : ℕ) → i < count → (node_at nodes i).parent ≡ i
  pub levels : (i : ℕ) → (node_at nodes i).levels ≡ 0
  pub below : (i : ℕ) → (node_at nodes i).below ≡ 0

-- some of the pairs are left, no other of which has fewer levels
pub record JoinsSoFar (joins left : List Join) (count : ℕ) (nodes : List Node) : Type 0 where
  pub forest : IsForest nodes
  pub long : length nodes ≡ count
  pub rises : Rises left
  pub from : (j : Join) → Contains left j → Contains joins j
  pub low : (j : Join) → Contains left j → AreLow nodes j.levels
  pub sound : (level i j : ℕ) → Same nodes level i j → Joined joins level i j
  pub whole : (j : Join) → Contains joins j → Contains left j
      ⊎ ((level : ℕ) → level < j.levels → Same nodes level j.one j.other)
