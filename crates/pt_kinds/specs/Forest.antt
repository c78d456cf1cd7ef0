-- Lists of kinds that share what lies below: each is a run of one kind upon a list before it.
use Rattle.std.specs.Prelude.{◌≡◌, ◌⊎◌, ℕ, ◌<◌, ◌≤◌, List, [], ◌∷◌, ◌++◌, length, replicate, slice_get, slice_index_or, Some}
use Rattle.pt_instr.specs.declared.kinds.Kind.{Kind}
use Rattle.pt_instr.specs.Effects.{Kinds}
use Rattle.pt_kinds.specs.declared.forest.Node.{Node}
use Rattle.pt_kinds.specs.declared.forest.Forest.{Forest}
use Rattle.pt_kinds.specs.declared.known.Known.{Known}
use Rattle.pt_kinds.specs.Known.{known_at}

abbrev pub list_in : List Kinds → (node : ℕ) → Kinds
list_in lists node = slice_index_or lists node []

-- the lists that nodes stand for, each by those before it
abbrev pub lists_from : (before : List Kinds) → List Node → List Kinds
lists_from before [] = before
lists_from before (n ∷ ns) =
    lists_from (before ++ (list_in before n.parent ++ replicate n.count n.kind) ∷ []) ns

abbrev pub lists_of : List Node → List Kinds
lists_of nodes = lists_from [] nodes

-- the list of a node
abbrev pub list_at : Forest → (node : ℕ) → Kinds
list_at f node = list_in (lists_of f.nodes.items) node

abbrev pub IsInside : Forest → (node : ℕ) → Type 0
IsInside f node = node < length f.nodes.items

pub record Begins (beginning whole : Kinds) : Type 0 where
  pub more : Kinds
  pub is : whole ≡ beginning ++ more

-- its top is of another kind
abbrev pub IsApart : Kinds → Kind → Type 0
IsApart ks k = (ls : Kinds) → ks ≡ ls ++ k ∷ [] → ⊥

-- a node is a run upon one before it, whose top is of another kind
pub record IsRun (nodes : List Node) (known : Known) (i : ℕ) (n : Node) : Type 0 where
  pub low : n.parent < i
  pub some : 0 < n.count
  pub apart : IsApart (list_in (lists_of nodes) n.parent) n.kind
  pub is : list_in (lists_of nodes) i
      ≡ list_in (lists_of nodes) n.parent ++ replicate n.count n.kind
  pub long : n.length ≡ length (list_in (lists_of nodes) i)
  pub before : n.shortcut < i
  pub begins : Begins (list_in (lists_of nodes) n.shortcut) (list_in (lists_of nodes) i)
  pub found : known_at known n.parent n.count n.kind ≡ Some i

-- the first node is the list of none
pub record IsRoot (n : Node) : Type 0 where
  pub parent : n.parent ≡ 0
  pub count : n.count ≡ 0
  pub long : n.length ≡ 0
  pub shortcut : n.shortcut ≡ 0

pub record HasRoot (nodes : List Node) : Type 0 where
  pub node : Node
  pub stands : slice_get nodes 0 ≡ Some node
  pub root : IsRoot node
  pub none : list_in (lists_of nodes) 0 ≡ []

-- the node that is known to be such a run
pub record IsKnown (nodes : List Node) (parent count : ℕ) (kind : Kind) (i : ℕ) : Type 0 where
  pub node : Node
  pub stands : slice_get nodes i ≡ Some node
  pub behind : 0 < i
  pub parent_is : node.parent ≡ parent
  pub count_is : node.count ≡ count
  pub kind_is : node.kind ≡ kind

pub record AreNodes (nodes : List Node) (known : Known) : Type 0 where
  pub first : HasRoot nodes
  pub each : (i : ℕ) (n : Node) → 0 < i → slice_get nodes i ≡ Some n → IsRun nodes known i n
  pub sound : (p c i : ℕ) (k : Kind) → known_at known p c k ≡ Some i → IsKnown nodes p c k i

abbrev pub IsForest : Forest → Type 0
IsForest f = AreNodes f.nodes.items f.known

-- a list has its node, and each node before keeps its list
pub record Has (old new : Forest) (node : ℕ) (ks : Kinds) : Type 0 where
  pub forest : IsForest new
  pub kept : (i : ℕ) → IsInside old i → list_at new i ≡ list_at old i
  pub more : length old.nodes.items ≤ length new.nodes.items
  pub inside : IsInside new node
  pub is : list_at new node ≡ ks

-- no two nodes have one list
abbrev pub AreDistinct : Forest → Type 0
AreDistinct f = (i j : ℕ) → IsInside f i → IsInside f j → list_at f i ≡ list_at f j → i ≡ j

-- the shortest list with so many slots of those on which a list stands, or the list itself
pub record IsFloor (f : Forest) (list depth node : ℕ) : Type 0 where
  pub inside : IsInside f node
  pub begins : Begins (list_at f node) (list_at f list)
  pub enough : (depth ≤ length (list_at f node)) ⊎ (node ≡ list)
  pub least : 0 < node → (n : Node) → slice_get f.nodes.items node ≡ Some n
      → length (list_at f n.parent) < depth

-- a node stands on a list with so many slots
pub record IsStandingOn (f : Forest) (node depth : ℕ) : Type 0 where
  pub top : Node
  pub stands : slice_get f.nodes.items node ≡ Some top
  pub behind : 0 < node
  pub enough : depth ≤ length (list_at f top.parent)

-- a list before a node with which that of the node begins, with so many slots
pub record IsLower (f : Forest) (node depth lower : ℕ) : Type 0 where
  pub before : lower < node
  pub enough : depth ≤ length (list_at f lower)
  pub begins : Begins (list_at f lower) (list_at f node)

-- a list is a run of this kind upon another
pub record HasTop (f : Forest) (node : ℕ) (kind : Kind) : Type 0 where
  pub top : Node
  pub stands : slice_get f.nodes.items node ≡ Some top
  pub behind : 0 < node
  pub same : top.kind ≡ kind
