-- What the asks of a run read and change: the names of an activation, and the objects, cells and
-- global names of the run (Language Reference 3.1, 4.2).
use Rattle.std.specs.Prelude.{◌≡◌, ℕ, List, [], ◌∷◌, ◌++◌, Bool, true, false, Option, Some, None, length, map}
use Rattle.std.specs.Prelude.{nat_eq, slice_get, codes, if◌then◌else◌}
use Rattle.std.specs.Option.{option_flatten}
use Rattle.std.specs.Str.{bytes_eq}
use Rattle.indexmap.specs.IndexMap.{insert_entry}
use Rattle.pt_base.specs.declared.what.What.TheVariants.{Heap}
use Rattle.pt_tree.specs.Syntax.{Name}
use Rattle.pt_heap.specs.declared.value.Value.{Value}
use Rattle.pt_heap.specs.declared.object.Object.{Object}
use Rattle.pt_heap.specs.declared.object.Object.TheVariants.{Str}
use Rattle.pt_base.specs.declared.numbers.BlockId.{BlockId as BlockNumber}
use Rattle.pt_builtin_objects.specs.Start.{start_objects}
use Rattle.pt_helper_objects.specs.Objects.{helper_objects}
use Rattle.pt_helper_objects.specs.pt_prelude.declared.kinds.Helper.{Helper}
use Rattle.pt_helper_objects.specs.pt_prelude.Helpers.{block_of}
use Rattle.pt_names.specs.Names.{Named}
use Rattle.pt_bind.specs.declared.arguments.Params.{Params}
use Rattle.pt_heap.specs.Limits.{object_limit}
use Rattle.pt_content.specs.Changes.{next_object}
use Rattle.sem_run.specs.run.Machine.{BlockId}
use Rattle.sem_run.specs.run.Host.{Store, Made, made, beyond}

-- the values of the local names, or of those of a class; and the numbers of the cells of the names
-- that have one
pub record Names : Type 0 where
  pub values : Named
  pub cells : List (Name × ℕ)

pub record World : Type 0 where
  pub heap : List Object
  pub globals : Named
  pub cells : List (Option Value)

abbrev pub Stores : Type 0
Stores = Store Names World

-- what a code object tells of a block (3.2.13.1): its name and its first line, its parameters, its
-- local names, the parameters first, the names whose cells it makes, those whose cells it takes
-- along, and whether a call of it makes a generator
pub record CodeFacts : Type 0 where
  pub name : Name
  pub first_line : ℕ
  pub params : Params
  pub locals : List Name
  pub cells : List Name
  pub frees : List Name
  pub yields : Bool

-- the name by which a block has the class that `super` is called for, if a class stands around it; no script has it
abbrev pub class_variable : Name
class_variable = codes ".class"

-- the blocks, and the texts of constants, each once; the name of the file that it was read from
-- (`co_filename`), and its text, from which tracebacks take their lines, if that is known
pub record Program : Type 0 where
  pub facts : BlockId → CodeFacts
  pub texts : List (List ℕ)
  pub file : List ℕ
  pub source : Option (List ℕ)

-- the same program, read from there
abbrev pub read_from : (file : List ℕ) → (source : Option (List ℕ)) → Program → Program
read_from f t p = record p { file = f; source = t }

abbrev pub with_heap : List Object → World → World
with_heap h w = record w { heap = h }

abbrev pub in_world : World → Stores → Stores
in_world w st = record st { world = w }

abbrev pub with_objects : List Object → Stores → Stores
with_objects h st = in_world (with_heap h st.world) st

-- an object is put behind the others; a full heap takes none
abbrev pub Allotted : Type 0
Allotted = Made Value (List Object)

abbrev pub allot : Object → List Object → Allotted
allot o h =
    if nat_eq (length h) object_limit then beyond Heap else made (next_object h) (h ++ o ∷ [])

abbrev pub allot_then : Allotted → (Value → List Object → Allotted) → Allotted
allot_then (made v h) f = f v h
allot_then (beyond what) f = beyond what

-- what came of it: the value, if there was room, and then the heap
abbrev pub IsAllotted : Allotted → Option Value → (heap : List Object) → Type 0
IsAllotted (made v h) o heap = (o ≡ Some v) × (heap ≡ h)
IsAllotted (beyond what) o heap = o ≡ None

-- the block of a function that is written in Python is one of the program that takes no cells along
abbrev pub stands_at : Program → Option BlockNumber → Bool
stands_at p (Some b) = nat_eq (length (p.facts (record { hidden = true; number = b.0 })).frees) 0
stands_at p None = false

abbrev pub stands : Program → Helper → Bool
stands p f = stands_at p (block_of f)

-- before a run begins: the builtin objects, those of functions that are written in Python, an object for each text of a constant, and no names
abbrev pub first_objects : Program → List Object
first_objects p = start_objects ++ helper_objects (stands p)

abbrev pub start_world : Program → World
start_world p = record { heap = first_objects p ++ map Str p.texts; globals = []; cells = [] }

-- as an activation is left its names keep what stands in their cells then
abbrev pub with_cell_values : List (Name × ℕ) → World → Named → Named
with_cell_values [] w vs = vs
with_cell_values (c ∷ cs) w vs =
    with_cell_values cs w (insert_entry bytes_eq vs c.0 (option_flatten (slice_get w.cells c.1)))

abbrev pub names_left : Names → World → Names
names_left ns w = record { values = with_cell_values ns.cells w ns.values; cells = [] }

abbrev pub no_names : Names
no_names = record { values = []; cells = [] }
