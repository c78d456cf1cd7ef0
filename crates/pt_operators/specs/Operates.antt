-- When code does with the answer of an operation what the host does with it.
use Rattle.std.specs.Prelude.{◌≡◌, ◌∷◌, List, Option, Some, None}
use Rattle.pt_base.specs.declared.what.What.TheVariants.{Feature, Helper}
use Rattle.pt_heap.specs.declared.value.Value.{Value}
use Rattle.pt_heap.specs.declared.value.Value.TheVariants as value
use Rattle.pt_heap.specs.declared.object.Object.{Object}
use Rattle.pt_frames.specs.declared.slot.Slot.{Slot}
use Rattle.pt_frames.specs.declared.slot.Slot.TheVariants as slot
use Rattle.pt_code.specs.View.{Ins}
use Rattle.sem_code.specs.slots.CodeObject.{CodeObject}
use Rattle.sem_code.specs.slots.Slots.{Slots, State}
use Rattle.sem_run.specs.run.Host.{Here}
use Rattle.pt_content.specs.declared.op.Op.{Op}
use Rattle.pt_content.specs.declared.answer.PrimAns.{PrimAns}
use Rattle.pt_content.specs.declared.answer.PrimAns.TheVariants as prim
use Rattle.pt_moves.specs.sem_rows.pt_host.Primitives.{Awaited, one_value, prim_asked}
use Rattle.pt_moves.specs.sem_rows.pt_host.World.{Program, Stores, with_objects}
use Rattle.pt_moves.specs.sem_rows.declared.heap_rows.progress.Progress.{Progress}
use Rattle.pt_moves.specs.sem_rows.declared.heap_rows.progress.Progress.TheVariants as progress
use Rattle.pt_moves.specs.sem_rows.heap_rows.Leads.{by_tree, giving}
use Rattle.pt_moves.specs.sem_rows.heap_rows.Told.{told}
use Rattle.pt_moves.specs.sem_rows.heap_rows.Views.{slots_view}

-- the value that an answer gives where one is awaited, if it does: what prints gives None
abbrev pub value_given : PrimAns → Option Value
value_given (prim.Value v) = Some v
value_given (prim.Print t) = Some value.None
value_given answer = None

-- how the instruction goes on then
abbrev pub progress_of : PrimAns → Progress
progress_of (prim.Value v) = progress.Next
progress_of (prim.Values vs) = progress.Outside Feature
progress_of prim.End = progress.Outside Feature
progress_of (prim.Raise class arg) = progress.Fails class arg
progress_of (prim.Help helper vs inverted) = progress.Outside Helper
progress_of (prim.Print t) = progress.Print t
progress_of (prim.Outside what) = progress.Outside what

-- a value that is given lies above the slots
abbrev pub over_value : Option Value → List Slot → List Slot
over_value (Some v) slots = slot.Value v ∷ slots
over_value None slots = slots

-- where an instruction goes on with what it has asked for, and with the slots below what it has taken
abbrev pub Continuation : Type 0 → Type 0
Continuation A = CodeObject Value → Ins → Slots Value → A → State Value

-- what was done for an operation on values is what the host's answer to that leads to
unfoldable pub Asks : {A : Type 0} → Awaited A → Continuation A → Op → List Value
    → (old : List Slot) (heap : List Object) → Progress → (new : List Slot) (grown : List Object) → Type 0
Asks w next o args old heap p new grown =
    (program : Program) (code : CodeObject Value) (i : Ins) (h : Here Value) (st : Stores)
    → told program code i h p (slots_view new) (with_objects grown st)
    ≡ by_tree code i (next code i (slots_view old)) (slots_view old) (prim_asked w o args h (with_objects heap st))

-- the same where a value is given
unfoldable pub Operates : Op → List Value → (old : List Slot) (heap : List Object) → Progress → (new : List Slot) (grown : List Object) → Type 0
Operates o args old heap p new grown = Asks one_value (λ code i ss. giving code i ss) o args old heap p new grown
