-- How classes are made (Language Reference 8.8, 3.3.3): their body is run in names of its own, and what it has bound then are the names of the class.
use Rattle.std.specs.Prelude.{ℕ, ◌+◌, ◌==◌, Bool, true, not, ◌||◌, List, [], ◌∷◌, ◌++◌, map, filter, length, codes, Option, Some, None, slice_get}
use Rattle.std.specs.Prelude.{if◌then◌else◌}
use Rattle.std.specs.Str.{bytes_eq}
use Rattle.pt_base.specs.declared.numbers.ObjId.{ObjId}
use Rattle.pt_base.specs.declared.what.What.TheVariants.{Feature}
use Rattle.pt_tree.specs.Syntax.{Name}
use Rattle.sem_control.specs.control.Turn.{End, gave, left_by}
use Rattle.pt_heap.specs.declared.value.Value.{Value}
use Rattle.pt_heap.specs.declared.value.Value.TheVariants as value
use Rattle.pt_heap.specs.declared.object.Object.{Object}
use Rattle.pt_heap.specs.declared.object.Object.TheVariants as object
use Rattle.pt_heap.specs.Entries.{Entry, put}
use Rattle.pt_heap.specs.declared.view.Binding.{Binding}
use Rattle.pt_names.specs.Names.{Named, bindings_of}
use Rattle.pt_bind.specs.NameSets.{is_among}
use Rattle.pt_content.specs.pt_attrs.pt_dicts.Keys.{name_codes}
use Rattle.pt_prims.specs.Classes.{derives}
use Rattle.sem_run.specs.run.Machine.{BlockId}
use Rattle.sem_run.specs.run.Host.{Here, Opening, answer, raise, leave, request, opens, made, beyond}
use Rattle.pt_host.specs.declared.classes.Base.{Base}
use Rattle.pt_host.specs.declared.classes.Base.TheVariants.{On, Unavailable, NoBase}
use Rattle.pt_host.specs.declared.places.TheConstants.{BASE_EXCEPTION, OBJECT, TYPE_ERROR}
use Rattle.pt_host.specs.World.{Names, World, Stores, CodeFacts, Program, Allotted, allot, class_variable, in_world, with_objects}
use Rattle.pt_host.specs.Variables.{with_cell}
use Rattle.pt_host.specs.Trees.{Tree}
use Rattle.pt_host.specs.Errors.{raise_saying}
use Rattle.pt_host.specs.Calls.{names_along, number_of, with_cells}

-- what a class can be made on: `object`, a class of exceptions, a class of a script; None stands for no base. Other builtin classes aren't there
-- yet, and neither is what would make something else of the body
abbrev pub base_by : List Object → ObjId → Option Object → Base
base_by h id (Some (object.Class c)) =
    if c.scripted || (id.0 == OBJECT.0 || derives h BASE_EXCEPTION id) then On id else Unavailable
base_by h id (Some (object.Instance x)) = Unavailable
base_by h id (Some (object.Error x)) = Unavailable
base_by h id (Some (object.Slice s)) = Unavailable
base_by h id o = NoBase

abbrev pub base_of : List Object → Value → Base
base_of h value.None = On OBJECT
base_of h (value.Obj id) = base_by h id (slice_get h id.0)
base_of h v = NoBase

-- the names that are bound; the local names of the body are those of its comprehensions, and none of the class
abbrev pub own_names : List Name → Named → Named
own_names locals ns = filter (λ n. not (is_among locals n.0)) ns

abbrev pub bound_entries : List Entry → List Binding → List Entry
bound_entries es [] = es
bound_entries es (b ∷ bs) = bound_entries (put (name_codes b.name) value.None b.value es) bs

abbrev pub class_with : Name → (base : ObjId) → List Entry → Object
class_with x base es = object.Class (record { name = x; base = Some base; scripted = true; names = es })

abbrev pub class_object : CodeFacts → (base : ObjId) → Named → Object
class_object facts base ns =
    class_with facts.name base (bound_entries [] (bindings_of (own_names facts.locals ns)))

-- the class that `super` is called for stands in a new cell of the class, in place of the one that it takes along, if a function of it may ask for it
abbrev pub with_own_cell : (cell : ℕ) → List Name → (along : List ℕ) → List ℕ
with_own_cell c (x ∷ xs) (n ∷ ns) = (if bytes_eq x class_variable then c else n) ∷ with_own_cell c xs ns
with_own_cell c xs ns = []

abbrev pub next_cell : CodeFacts → World → ℕ
next_cell facts w = length w.cells + length facts.cells

abbrev pub class_cells : CodeFacts → World → List (Option Value)
class_cells facts w = if is_among facts.frees class_variable then None ∷ [] else []

abbrev pub names_of_body : CodeFacts → (along : List ℕ) → World → Names
names_of_body facts ns w =
    names_along facts (with_own_cell (next_cell facts w) facts.frees ns) [] w

abbrev pub world_of_body : CodeFacts → World → World
world_of_body facts w =
    record (with_cells facts [] w) { cells = (with_cells facts [] w).cells ++ class_cells facts w }

abbrev pub body : BlockId → CodeFacts → (along : List ℕ) → World → Opening Names Value
body b facts ns w = record { block = b; iterator = None; names = names_of_body facts ns w }

-- the class is there, and its cell holds it
abbrev pub class_made : (cell : Option ℕ) → Allotted → Stores → Tree Value
class_made c (made v h) st = answer v (with_cell c (Some v) (with_objects h st))
class_made c (beyond what) st = leave what

abbrev pub class_on : Base → CodeFacts → (cell : Option ℕ) → Named → Here Value → Stores → Tree Value
class_on (On base) facts c ns h st = class_made c (allot (class_object facts base ns) st.world.heap) st
class_on Unavailable facts c ns h st = leave Feature
class_on NoBase facts c ns h st = raise_saying TYPE_ERROR (codes "bad argument") h st

abbrev pub class_by : End Value → (base : Value) → CodeFacts → (cell : Option ℕ) → Named → Here Value → Stores → Tree Value
class_by (gave v) b facts c ns h st = class_on (base_of st.world.heap b) facts c ns h st
class_by (left_by e) b facts c ns h st = raise e st

abbrev pub cell_if : CodeFacts → (cell : ℕ) → Option ℕ
cell_if facts c = if is_among facts.frees class_variable then Some c else None

abbrev pub class_from : BlockId → CodeFacts → (base : Value) → (along : List ℕ) → Here Value → Stores → Tree Value
class_from b facts base ns h st =
    request (opens (body b facts ns st.world)) (in_world (world_of_body facts st.world) st)
    (λ r st1. class_by r.end base facts (cell_if facts (next_cell facts st.world)) r.names.values h st1)

abbrev pub class_block : (hidden : Bool) → (block : ℕ) → BlockId
class_block hidden b = record { hidden = hidden; number = b }

-- behind the base stand the numbers of the cells that the body takes along
abbrev pub make_class : Program → (block : ℕ) → List Value → Here Value → Stores → Tree Value
make_class p b (base ∷ vs) h st =
    class_from (class_block h.block.hidden b) (p.facts (class_block h.block.hidden b)) base (map number_of vs) h st
make_class p b [] h st = leave Feature
