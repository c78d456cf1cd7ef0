-- What code does that makes instances, and that sets attributes by texts (Language Reference 3.3.1; Library Reference, `object`, `setattr`).
use Rattle.std.specs.Prelude.{◌≡◌, ℕ, List, [], ◌∷◌, Bool, true, false, Option, Some, slice_get}
use Rattle.pt_base.specs.declared.numbers.ObjId.{ObjId}
use Rattle.pt_heap.specs.declared.value.Value.{Value}
use Rattle.pt_heap.specs.declared.value.Value.TheVariants as value
use Rattle.pt_heap.specs.declared.object.Class.{Class}
use Rattle.pt_heap.specs.declared.object.Object.{Object}
use Rattle.pt_bind.specs.Binding.{binding_with}
use Rattle.pt_bind.specs.declared.arguments.Args.{Args}
use Rattle.pt_frames.specs.declared.slot.Slot.{Slot}
use Rattle.pt_content.specs.pt_attrs.declared.look.Found.TheVariants as found
use Rattle.pt_content.specs.pt_attrs.pt_dicts.Chain.{class_in}
use Rattle.sem_run.specs.run.Host.{answer}
use Rattle.pt_moves.specs.sem_rows.pt_host.declared.places.TheConstants.{BASE_EXCEPTION}
use Rattle.pt_moves.specs.sem_rows.pt_host.World.{IsAllotted, allot}
use Rattle.pt_moves.specs.sem_rows.pt_host.Trees.{answer_with, then_with}
use Rattle.pt_moves.specs.sem_rows.pt_host.Attributes.{set_attribute}
use Rattle.pt_moves.specs.sem_rows.pt_host.Calls.{call_setattr, initializer, instance, made_unless, make_instance, new_object, parameters_without, unnamed_operands}
use Rattle.pt_prims.specs.Classes.{derives}
use Rattle.pt_moves.specs.sem_rows.declared.heap_rows.progress.Progress.{Progress}
use Rattle.pt_class_rows.specs.declared.instances.Instance.{Instance}
use Rattle.pt_class_rows.specs.declared.instances.Instance.TheVariants.{Done, Initialized}
use Rattle.pt_class_rows.specs.Calls.{Calls, Makes}

-- arguments without names, if all are
abbrev pub unnamed : Args → Option (List Value)
unnamed args = unnamed_operands args.named args.plain

abbrev pub are_none : Option (List Value) → Bool
are_none (Some []) = true
are_none o = false

-- a new object is given
unfoldable pub GivesNew : Object → (old : List Slot) (heap : List Object) → Progress → (new : List Slot) (grown : List Object) → Type 0
GivesNew o old heap p new grown = Makes (λ h st. answer_with (allot o st.world.heap) st) old heap p new grown

-- what a call of `object` gives
unfoldable pub GivesObject : Args → (old : List Slot) (heap : List Object) → Progress → (new : List Slot) (grown : List Object) → Type 0
GivesObject args old heap p new grown = Makes (λ h st. new_object (unnamed args) st) old heap p new grown

-- an instance of a class without `__init__`
unfoldable pub MakesBare : (exception : Bool) → ObjId → Args → (old : List Slot) (heap : List Object) → Progress → (new : List Slot) (grown : List Object) → Type 0
MakesBare e id args old heap p new grown =
    (c : Class) → class_in (slice_get heap id.0) ≡ Some c
    → Makes (λ h st. made_unless (binding_with (parameters_without e) [] args) c (instance e id args.plain) h st) old heap p new grown

-- a call of a class of a script, where that is done with before `__init__` is called
unfoldable pub CallsClass : ObjId → Args → (old : List Slot) (heap : List Object) → Progress → (new : List Slot) (grown : List Object) → Type 0
CallsClass id args old heap p new grown =
    (c : Class) (cells : List (Option Value)) → class_in (slice_get heap id.0) ≡ Some c
    → Calls (λ program h st. Unit {0}) (λ program h st. make_instance program id c args h st) old cells heap p new cells grown

-- an instance, for which this function is called
pub record IsInitialized (id : ObjId) (args : Args) (heap : List Object) (f made : Value) (grown : List Object) : Type 0 where
  pub function : initializer heap id ≡ Some (found.Bound f)
  pub made_so : IsAllotted (allot (instance (derives heap BASE_EXCEPTION id) id args.plain) heap) (Some made) grown

-- up to the call of `__init__`
abbrev pub MakesInstance : ObjId → Args → (old : List Slot) (heap : List Object) → Instance → (new : List Slot) (grown : List Object) → Type 0
MakesInstance id args old heap (Done p) new grown = CallsClass id args old heap p new grown
MakesInstance id args old heap (Initialized f v) new grown = (new ≡ old) × IsInitialized id args heap f v grown

-- an attribute is set, and None given; the same by a text that is an argument
unfoldable pub SetsHere : List ℕ → (to value : Value) → (old : List Slot) (heap : List Object) → Progress → (new : List Slot) (grown : List Object) → Type 0
SetsHere x a v old heap p new grown =
    Makes (λ h st. then_with (set_attribute x a v h st) (λ u st1. answer value.None st1)) old heap p new grown

unfoldable pub SetsNamed : Args → (old : List Slot) (heap : List Object) → Progress → (new : List Slot) (grown : List Object) → Type 0
SetsNamed args old heap p new grown = Makes (λ h st. call_setattr (unnamed args) h st) old heap p new grown
