-- How a variable is read, bound and unbound (Language Reference 4.2.2, 7.2, 7.5).
use Rattle.std.specs.Prelude.{ℕ, pos, [], ◌∷◌, ◌++◌, Option, Some, None, length, reverse, slice_get}
use Rattle.std.specs.Prelude.{slice_set, Bool, false, not, ◌&&◌, if◌then◌else◌}
use Rattle.std.specs.Map.{lookup}
use Rattle.std.specs.Option.{option_flatten, option_or}
use Rattle.std.specs.Str.{bytes_eq}
use Rattle.indexmap.specs.IndexMap.{insert_entry}
use Rattle.pt_base.specs.declared.what.What.TheVariants.{Feature, Special}
use Rattle.pt_tables.specs.Names.{special_names}
use Rattle.pt_tree.specs.Syntax.{Name}
use Rattle.sem_control.specs.control.Turn as T
use Rattle.sem_control.specs.control.Turn.{Scope, Variable}
use Rattle.pt_heap.specs.declared.value.Value.{Value}
use Rattle.pt_heap.specs.declared.value.Value.TheVariants as value
use Rattle.pt_names.specs.Names.{name_value}
use Rattle.pt_bind.specs.NameSets.{is_among}
use Rattle.pt_content.specs.pt_attrs.Unbuilt.{is_special}
use Rattle.sem_run.specs.run.Host.{Here, answer, leave}
use Rattle.pt_host.specs.World.{Names, World, Stores, in_world}
use Rattle.pt_host.specs.Trees.{Tree}
use Rattle.pt_host.specs.Texts.{unbound_text, unbound_class}
use Rattle.pt_host.specs.Errors.{raise_saying}
use Rattle.pt_host.specs.Builtins.{Builtin, is, unavailable, no_builtin, meaning}

abbrev pub cell_number : Name → Names → Option ℕ
cell_number x ns = lookup (bytes_eq x) ns.cells

-- One name may be a cell of a block and free in it, that of the class for `super` where a block of a class makes a class. Free names stand behind
-- the cells.
abbrev pub free_number : Name → Names → Option ℕ
free_number x ns = lookup (bytes_eq x) (reverse ns.cells)

abbrev pub number_in : Scope → Name → Names → Option ℕ
number_in T.free x ns = free_number x ns
number_in s x ns = cell_number x ns

abbrev pub cell_value : Option ℕ → World → Option Value
cell_value (Some n) w = option_flatten (slice_get w.cells n)
cell_value None w = None

-- the value that a name of this scope has, if it is bound
abbrev pub variable_value : Scope → Name → Stores → Option Value
variable_value T.local x st = name_value x st.names.values
variable_value T.cell x st = cell_value (cell_number x st.names) st.world
variable_value T.free x st = cell_value (free_number x st.names) st.world
variable_value T.global x st = name_value x st.world.globals
variable_value T.of_class x st = name_value x st.names.values

-- a hidden block sees no name of the module that runs, whatever that binds
abbrev pub global_value : (hidden : Bool) → Name → Stores → Option Value
global_value hidden x st = if hidden then None else variable_value T.global x st

-- the body of a class reads a name of the module that it doesn't bind
abbrev pub readable_value : (hidden : Bool) → Scope → Name → Stores → Option Value
readable_value hidden T.of_class x st =
    option_or (variable_value T.of_class x st) (global_value hidden x st)
readable_value hidden T.global x st = global_value hidden x st
readable_value hidden s x st = variable_value s x st

abbrev pub raise_unbound : {A : Type 0} → Scope → Name → Here Value → Stores → Tree A
raise_unbound s x h st = raise_saying (unbound_class s) (unbound_text s x) h st

abbrev pub by_builtin : Builtin → Scope → Name → Here Value → Stores → Tree Value
by_builtin (is v) s x h st = answer v st
by_builtin unavailable s x h st = leave Feature
by_builtin no_builtin s x h st = raise_unbound s x h st

-- a name that the module doesn't bind may be a builtin's, and in a hidden block a function's that is written in Python
abbrev pub unless_bound : Scope → Name → Here Value → Stores → Tree Value
unless_bound T.global x h st = by_builtin (meaning h.block.hidden x) T.global x h st
unless_bound T.of_class x h st = by_builtin (meaning h.block.hidden x) T.of_class x h st
unless_bound s x h st = raise_unbound s x h st

abbrev pub load_by : Option Value → Scope → Name → Here Value → Stores → Tree Value
load_by (Some v) s x h st = answer v st
load_by None s x h st = unless_bound s x h st

abbrev pub load : Variable → Here Value → Stores → Tree Value
load x h st = load_by (readable_value h.block.hidden x.scope x.name st) x.scope x.name h st

-- the names with a value for one of them, or none
abbrev pub with_own : Name → Option Value → Stores → Stores
with_own x v st =
    record st { names = record st.names { values = insert_entry bytes_eq st.names.values x v } }

abbrev pub with_global : Name → Option Value → Stores → Stores
with_global x v st =
    in_world (record st.world { globals = insert_entry bytes_eq st.world.globals x v }) st

abbrev pub with_cell : Option ℕ → Option Value → Stores → Stores
with_cell (Some n) v st = in_world (record st.world { cells = slice_set st.world.cells n v }) st
with_cell None v st = st

abbrev pub put : Scope → Name → Option Value → Stores → Stores
put T.local x v st = with_own x v st
put T.cell x v st = with_cell (cell_number x st.names) v st
put T.free x v st = with_cell (free_number x st.names) v st
put T.global x v st = with_global x v st
put T.of_class x v st = with_own x v st

-- a name between double underscores that is none of a special method (3.3), which a class doesn't bind
abbrev pub is_left_out : Name → Bool
is_left_out x = is_special x && not (is_among special_names x)

abbrev pub is_no_method : Scope → Name → Bool
is_no_method T.of_class x = is_left_out x
is_no_method s x = false

abbrev pub store : Variable → Value → Stores → Tree (Unit {0})
store x v st =
    if is_no_method x.scope x.name then leave Special else answer tt (put x.scope x.name (Some v) st)

abbrev pub delete_by : Option Value → Scope → Name → Here Value → Stores → Tree (Unit {0})
delete_by (Some v) s x h st = answer tt (put s x None st)
delete_by None s x h st = raise_unbound s x h st

abbrev pub delete : Variable → Here Value → Stores → Tree (Unit {0})
delete x h st = delete_by (variable_value x.scope x.name st) x.scope x.name h st

-- a name is made anew: unbound, and with a cell of its own if it has one (6.2.4)
abbrev pub with_cell_number : Name → (number : ℕ) → Names → Names
with_cell_number x n ns = record ns { cells = insert_entry bytes_eq ns.cells x n }

abbrev pub with_new_cell : Name → Stores → Stores
with_new_cell x st = record {
  names = with_cell_number x (length st.world.cells) st.names;
  world = record st.world { cells = st.world.cells ++ None ∷ [] };
}

abbrev pub make_anew : Scope → Name → Stores → Stores
make_anew T.cell x st = with_new_cell x st
make_anew s x st = put s x None st

-- a cell is passed on by its number
abbrev pub number_value : Option ℕ → Value
number_value (Some n) = value.Int (pos n)
number_value None = value.None

abbrev pub cell_of : Variable → Stores → Tree Value
cell_of x st = answer (number_value (number_in x.scope x.name st.names)) st
