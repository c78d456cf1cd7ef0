-- When code does with operations on values what rows say, which may ask methods of a script's classes (Language Reference 3.3, 6).
use Rattle.std.specs.Prelude.{◌≡◌, ℕ, List, Option}
use Rattle.sem_control.specs.control.Turn.{Operation}
use Rattle.pt_heap.specs.declared.value.Value.{Value}
use Rattle.pt_heap.specs.declared.object.Object.{Object}
use Rattle.pt_frames.specs.declared.slot.Slot.{Slot}
use Rattle.pt_code.specs.View.{Ins}
use Rattle.sem_code.specs.slots.CodeObject.{CodeObject}
use Rattle.sem_code.specs.slots.Instructions.{operates}
use Rattle.sem_run.specs.run.Host.{Here}
use Rattle.pt_content.specs.declared.op.Op.{Op}
use Rattle.pt_call_rows.specs.pt_operators.pt_prims.pt_special_methods.Instances.{method_of}
use Rattle.pt_call_rows.specs.pt_operators.pt_moves.sem_rows.pt_host.Answers.{operate}
use Rattle.pt_call_rows.specs.pt_operators.pt_moves.sem_rows.pt_host.Calls.{by_prim_or_helper, call_special}
use Rattle.pt_call_rows.specs.pt_operators.pt_moves.sem_rows.pt_host.Trees.{Tree}
use Rattle.pt_call_rows.specs.pt_operators.pt_moves.sem_rows.pt_host.World.{Program, Stores}
use Rattle.pt_call_rows.specs.pt_operators.pt_moves.sem_rows.declared.heap_rows.progress.Progress.{Progress}
use Rattle.pt_call_rows.specs.pt_operators.pt_moves.sem_rows.heap_rows.Laws.{reached}
use Rattle.pt_call_rows.specs.pt_operators.pt_moves.sem_rows.heap_rows.Told.{told}
use Rattle.pt_call_rows.specs.pt_operators.pt_moves.sem_rows.heap_rows.Views.{slots_view}
use Rattle.pt_call_rows.specs.pt_function_rows.pt_code_facts.declared.facts.Blocks.{Blocks}
use Rattle.pt_call_rows.specs.pt_function_rows.pt_code_facts.Facts.{KnowsBlocks}
use Rattle.pt_call_rows.specs.pt_class_rows.Calls.{Calls, Running, with_parts}
use Rattle.pt_call_rows.specs.CallRows.{KnowsRunning}

-- the host does an operation of control by one on values
abbrev pub IsDoneBy : Operation → Op → Type 0
IsDoneBy f o =
    (program : Program) (vs : List Value) (h : Here Value) (st : Stores)
    → ◌≡◌ {A = Tree Value} (operate program f vs h st) (by_prim_or_helper program o vs h st)

-- what was done is what an instruction does that takes so many values and gives what the operation answers
unfoldable pub Gathers : Op → (count : ℕ) → Blocks → (old : List Slot) (cells : List (Option Value)) (heap : List Object)
    → Progress → (new : List Slot) (changed : List (Option Value)) (grown : List Object) → Type 0
Gathers o n blocks old cells heap p new changed grown =
    (f : Operation) → IsDoneBy f o → (program : Program) (code : CodeObject Value) (pc : ℕ) (i : Ins) (h : Here Value) (st : Stores) → KnowsBlocks program blocks
    → told program code i h p (slots_view new) (with_parts changed grown st)
    ≡ reached program code i h (with_parts cells heap st) (operates code pc i f n (slots_view old))

-- an instance is asked for the method of a name, with these arguments; what has none is operated on
unfoldable pub AsksSpecial : (name : List ℕ) → Op → (receiver : Value) → (rest operands : List Value) → Blocks → Running
    → (old : List Slot) (cells : List (Option Value)) (heap : List Object)
    → Progress → (new : List Slot) (changed : List (Option Value)) (grown : List Object) → Type 0
AsksSpecial name o v rest vs blocks r old cells heap p new changed grown =
    Calls (λ program h st. KnowsRunning blocks r program h st)
    (λ program h st. call_special program (method_of st.world.heap v name) v rest (by_prim_or_helper program o vs h st) h st) old cells heap p new changed grown
