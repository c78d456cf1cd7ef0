-- What code does where `super` is called (Library Reference, `super`): the names of the running block by its facts and its activation.
use Rattle.std.specs.Prelude.{◌++◌, ℕ, List, [], ◌∷◌, Option, Some, None, slice_get, if◌then◌else◌}
use Rattle.std.specs.Map.{lookup}
use Rattle.std.specs.Option.{option_flatten}
use Rattle.std.specs.Str.{bytes_eq}
use Rattle.pt_base.specs.declared.numbers.ObjId.{ObjId}
use Rattle.pt_tree.specs.Syntax.{Name}
use Rattle.pt_heap.specs.declared.value.Value.{Value}
use Rattle.pt_heap.specs.declared.object.Object.{Object}
use Rattle.pt_names.specs.Names.{name_value}
use Rattle.pt_bind.specs.NameSets.{is_among}
use Rattle.pt_bind.specs.declared.arguments.Args.{Args}
use Rattle.pt_frames.specs.declared.slot.Slot.{Slot}
use Rattle.pt_moves.specs.sem_rows.pt_host.World.{class_variable}
use Rattle.pt_moves.specs.sem_rows.pt_host.Calls.{call_super}
use Rattle.pt_moves.specs.sem_rows.pt_host.Supers.{super_by, super_of}
use Rattle.pt_moves.specs.sem_rows.declared.heap_rows.progress.Progress.{Progress}
use Rattle.pt_moves.specs.sem_rows.heap_rows.Views.{paired}
use Rattle.pt_class_rows.specs.Calls.{Calls, Makes, Running, Runs}
use Rattle.pt_class_rows.specs.Instances.{unnamed}

-- what stands in the cell of a number
abbrev pub in_cell : (cells : List (Option Value)) → Option ℕ → Option Value
in_cell cells (Some n) = option_flatten (slice_get cells n)
in_cell cells None = None

-- the number of the last of some names that is this one, as far as there are numbers, or one before them
abbrev pub last_from : (before : Option ℕ) → Name → List Name → List ℕ → Option ℕ
last_from n x (y ∷ ys) (m ∷ ms) = last_from (if bytes_eq x y then Some m else n) x ys ms
last_from n x _ _ = n

abbrev pub class_around : Running → (cells : List (Option Value)) → Option Value
class_around r cells =
    if is_among r.facts.frees class_variable then in_cell cells (last_from None class_variable (r.facts.cells ++ r.facts.frees) r.numbers) else None

-- a parameter that another block reads stands in a cell
abbrev pub value_here : Running → (cells : List (Option Value)) → Name → Option Value
value_here r cells x =
    if is_among r.facts.cells x then in_cell cells (lookup (bytes_eq x) (paired r.facts.cells r.numbers))
    else name_value x (paired r.facts.locals r.locals ++ r.own)

abbrev pub first_of : Running → (cells : List (Option Value)) → List Name → Option Value
first_of r cells [] = None
first_of r cells (x ∷ xs) = value_here r cells x

abbrev pub first_value : Running → (cells : List (Option Value)) → Option Value
first_value r cells = first_of r cells r.facts.params.plain

-- by the class of this number, or by what stands in its cell
unfoldable pub GivesSuperOf : ObjId → (receiver : Value) → (old : List Slot) (heap : List Object) → Progress → (new : List Slot) (grown : List Object) → Type 0
GivesSuperOf id r old heap p new grown = Makes (λ h st. super_by id (slice_get st.world.heap id.0) r h st) old heap p new grown

unfoldable pub GivesSuperBy : (class receiver : Option Value) → (old : List Slot) (heap : List Object) → Progress → (new : List Slot) (grown : List Object) → Type 0
GivesSuperBy c r old heap p new grown = Makes (λ h st. super_of c r h st) old heap p new grown

unfoldable pub GivesSuper : Running → Args → (old : List Slot) (cells : List (Option Value)) (heap : List Object)
    → Progress → (new : List Slot) (grown : List Object) → Type 0
GivesSuper r args old cells heap p new grown =
    Calls (λ program h st. Runs r program h st) (λ program h st. call_super program (unnamed args) h st) old cells heap p new cells grown
