-- What a call of `super` without arguments gives (Library Reference, `super`; Language Reference 3.3.3.6): the class in whose body the running block
-- stands, for the value of its first parameter.
use Rattle.std.specs.Prelude.{Bool, ◌||◌, List, [], ◌∷◌, Option, Some, None, codes, slice_get, if◌then◌else◌}
use Rattle.pt_base.specs.declared.numbers.ObjId.{ObjId}
use Rattle.pt_tree.specs.Syntax.{Name}
use Rattle.pt_heap.specs.declared.value.Value.{Value}
use Rattle.pt_heap.specs.declared.value.Value.TheVariants as value
use Rattle.pt_heap.specs.declared.object.Object.{Object}
use Rattle.pt_heap.specs.declared.object.Object.TheVariants as object
use Rattle.pt_names.specs.Names.{name_value}
use Rattle.pt_bind.specs.NameSets.{is_among}
use Rattle.pt_prims.specs.Calls.{class_of}
use Rattle.pt_prims.specs.Classes.{is_of}
use Rattle.sem_run.specs.run.Host.{Here}
use Rattle.pt_host.specs.declared.places.TheConstants.{RUNTIME_ERROR, TYPE_ERROR}
use Rattle.pt_host.specs.World.{Stores, CodeFacts, Program, allot, class_variable}
use Rattle.pt_host.specs.Variables.{cell_number, cell_value, free_number}
use Rattle.pt_host.specs.Trees.{Tree, answer_with}
use Rattle.pt_host.specs.Errors.{raise_saying}

abbrev pub class_around : CodeFacts → Stores → Option Value
class_around facts st =
    if is_among facts.frees class_variable then cell_value (free_number class_variable st.names) st.world else None

-- a parameter that another block reads stands in a cell
abbrev pub value_here : CodeFacts → Stores → Name → Option Value
value_here facts st x =
    if is_among facts.cells x then cell_value (cell_number x st.names) st.world
    else name_value x st.names.values

abbrev pub first_value : CodeFacts → Stores → List Name → Option Value
first_value facts st [] = None
first_value facts st (x ∷ xs) = value_here facts st x

-- an instance of the class, or a class that is this one or is made on it
abbrev pub may_have_super : List Object → (class receiver : Value) → Bool
may_have_super h c r = is_of h (class_of h r) c || is_of h r c

abbrev pub super_object : (class : ObjId) → (receiver : Value) → Object
super_object c r = object.Super (record { class = c; receiver = r })

abbrev pub super_by : ObjId → Option Object → (receiver : Value) → Here Value → Stores → Tree Value
super_by id (Some (object.Class c)) r h st =
    if may_have_super st.world.heap (value.Obj id) r then answer_with (allot (super_object id r) st.world.heap) st
    else raise_saying TYPE_ERROR (codes "bad argument") h st
super_by id o r h st = raise_saying RUNTIME_ERROR (codes "bad argument") h st

abbrev pub super_of : Option Value → (receiver : Option Value) → Here Value → Stores → Tree Value
super_of (Some (value.Obj id)) (Some r) h st = super_by id (slice_get st.world.heap id.0) r h st
super_of c r h st = raise_saying RUNTIME_ERROR (codes "bad argument") h st

abbrev pub make_super : Program → Here Value → Stores → Tree Value
make_super p h st =
    let facts = p.facts h.block in
    super_of (class_around facts st) (first_value facts st facts.params.plain) h st
