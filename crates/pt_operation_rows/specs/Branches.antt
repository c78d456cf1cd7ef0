-- Where code goes on by the truth of a value (Language Reference 6.11, 6.13, 8.1, 8.2; Library Reference, "Truth Value Testing").
use Rattle.std.specs.Prelude.{◌≡◌, Bool, true, false, not, List, Option, Result, Ok, Err, if◌then◌else◌}
use Rattle.pt_base.specs.declared.numbers.Pc.{Pc}
use Rattle.pt_base.specs.declared.what.What.TheVariants.{Feature, Helper}
use Rattle.pt_heap.specs.declared.value.Value.{Value}
use Rattle.pt_heap.specs.declared.value.Value.TheVariants as value
use Rattle.pt_heap.specs.declared.object.Object.{Object}
use Rattle.pt_frames.specs.declared.slot.Slot.{Slot}
use Rattle.pt_content.specs.declared.answer.PrimAns.{PrimAns}
use Rattle.pt_content.specs.declared.answer.PrimAns.TheVariants as prim
use Rattle.pt_code.specs.View.{Ins}
use Rattle.sem_code.specs.slots.CodeObject.{CodeObject}
use Rattle.sem_run.specs.run.Host.{Here}
use Rattle.pt_call_rows.specs.pt_operators.Operates.{over_value}
use Rattle.pt_call_rows.specs.pt_operators.pt_moves.sem_rows.pt_host.Answers.{branch}
use Rattle.pt_call_rows.specs.pt_operators.pt_moves.sem_rows.pt_host.World.{Program, Stores}
use Rattle.pt_call_rows.specs.pt_operators.pt_moves.sem_rows.declared.heap_rows.progress.Progress.{Progress}
use Rattle.pt_call_rows.specs.pt_operators.pt_moves.sem_rows.declared.heap_rows.progress.Progress.TheVariants as progress
use Rattle.pt_call_rows.specs.pt_operators.pt_moves.sem_rows.heap_rows.Leads.{by_tree}
use Rattle.pt_call_rows.specs.pt_operators.pt_moves.sem_rows.heap_rows.Told.{branched, told}
use Rattle.pt_call_rows.specs.pt_operators.pt_moves.sem_rows.heap_rows.Views.{slots_view}
use Rattle.pt_call_rows.specs.pt_function_rows.pt_code_facts.declared.facts.Blocks.{Blocks}
use Rattle.pt_call_rows.specs.pt_function_rows.pt_code_facts.Facts.{KnowsBlocks}
use Rattle.pt_call_rows.specs.pt_class_rows.Calls.{with_parts}

-- the truth that the test of a value answers, or what that comes to instead
abbrev pub truth_in : PrimAns → Result Bool Progress
truth_in (prim.Value (value.Bool b)) = Ok b
truth_in (prim.Raise class arg) = Err (progress.Fails class arg)
truth_in (prim.Help helper vs inverted) = Err (progress.Outside Helper)
truth_in (prim.Outside what) = Err (progress.Outside what)
truth_in answer = Err (progress.Outside Feature)

abbrev pub is_wanted : (wanted truth : Bool) → Bool
is_wanted true b = b
is_wanted false b = not b

-- how code goes on by a truth, and the slots then: those below, with the value that is kept where it goes to the place
abbrev pub gone_by : (wanted : Bool) → (target : Pc) → (truth : Bool) → Progress
gone_by wanted target b = if is_wanted wanted b then progress.Goto target else progress.Next

abbrev pub kept_by : (wanted : Bool) → (kept : Option Value) → (truth : Bool) → List Slot → List Slot
kept_by wanted kept b slots = if is_wanted wanted b then over_value kept slots else slots

-- what code did by the truth of a value, with the slots below that
unfoldable pub Branches : Value → (wanted : Bool) → (target : Pc) → (kept : Option Value) → Blocks
    → (old : List Slot) (cells : List (Option Value)) (heap : List Object)
    → Progress → (new : List Slot) (changed : List (Option Value)) (grown : List Object) → Type 0
Branches v wanted target kept blocks old cells heap p new changed grown =
    (program : Program) (code : CodeObject Value) (i : Ins) (h : Here Value) (st : Stores) → KnowsBlocks program blocks
    → told program code i h p (slots_view new) (with_parts changed grown st)
    ≡ by_tree code i (branched program code i wanted target kept (slots_view old)) (slots_view old) (branch program v h (with_parts cells heap st))
