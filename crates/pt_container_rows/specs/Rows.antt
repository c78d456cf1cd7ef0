-- What code does for operations that change an object, and for what is unpacked.
use Rattle.std.specs.Prelude.{◌≡◌, ℕ, List, Bool, Option}
use Rattle.sem_control.specs.control.Turn as T
use Rattle.pt_heap.specs.declared.value.Value.{Value}
use Rattle.pt_heap.specs.declared.object.Object.{Object}
use Rattle.pt_frames.specs.declared.slot.Slot.{Slot}
use Rattle.pt_content.specs.declared.answer.Helper.{Helper as Asked}
use Rattle.pt_content.specs.declared.op.Op.{Op}
use Rattle.pt_code.specs.View.{Ins}
use Rattle.sem_code.specs.slots.CodeObject.{CodeObject}
use Rattle.sem_code.specs.slots.Slots.{on}
use Rattle.sem_code.specs.slots.Pops.{giving, one}
use Rattle.sem_code.specs.slots.Steps.{asks}
use Rattle.sem_run.specs.run.Host.{Here, answer}
use Rattle.pt_block_calls.specs.pt_operators.pt_prims.pt_special_methods.Instances.{method_of}
use Rattle.pt_block_calls.specs.pt_operators.pt_moves.sem_rows.pt_host.Answers.{changed_by, unpacking}
use Rattle.pt_block_calls.specs.pt_operators.pt_moves.sem_rows.pt_host.Calls.{behind_helper, operated}
use Rattle.pt_block_calls.specs.pt_operators.pt_moves.sem_rows.pt_host.Primitives.{done}
use Rattle.pt_block_calls.specs.pt_operators.pt_moves.sem_rows.pt_host.Trees.{Tree}
use Rattle.pt_block_calls.specs.pt_operators.pt_moves.sem_rows.pt_host.World.{Program, Stores}
use Rattle.pt_block_calls.specs.pt_operators.pt_moves.sem_rows.declared.heap_rows.progress.Progress.{Progress}
use Rattle.pt_block_calls.specs.pt_operators.pt_moves.sem_rows.heap_rows.Laws.{reached}
use Rattle.pt_block_calls.specs.pt_operators.pt_moves.sem_rows.heap_rows.Leads.{behind, by_tree}
use Rattle.pt_block_calls.specs.pt_operators.pt_moves.sem_rows.heap_rows.Told.{row_count, told, unpacks}
use Rattle.pt_block_calls.specs.pt_operators.pt_moves.sem_rows.heap_rows.Views.{slots_view}
use Rattle.pt_block_calls.specs.pt_function_rows.pt_code_facts.declared.facts.Blocks.{Blocks}
use Rattle.pt_block_calls.specs.pt_function_rows.pt_code_facts.Facts.{KnowsBlocks}
use Rattle.pt_block_calls.specs.pt_class_rows.Calls.{with_parts}

-- what a function of the prelude gives that an operation asks is dropped
abbrev pub Drops : Op → Type 0
Drops o =
    (x : Asked) (us : List Value) (b : Bool) (v : Value) (h : Here Value) (st : Stores)
    → ◌≡◌ {A = Tree (Unit {0})} (behind_helper done o x us b v h st) (answer tt st)

-- what was done is an operation that gives nothing, on values that were taken off
unfoldable pub Changes : Op → List Value → Blocks → (cells : List (Option Value)) (heap : List Object)
    → Progress → (changed : List (Option Value)) (grown : List Object) → Type 0
Changes o vs blocks cells heap p changed grown =
    Drops o → (slots : List Slot) (program : Program) (code : CodeObject Value) (i : Ins) (h : Here Value) (st : Stores) → KnowsBlocks program blocks
    → told program code i h p (slots_view slots) (with_parts changed grown st)
    ≡ by_tree code i (behind code i (slots_view slots)) (slots_view slots) (operated program done o vs h (with_parts cells heap st))

-- an instance is asked for the method of this name, with these arguments; what has none is operated on
unfoldable pub ChangesBy : (name : List ℕ) → Op → (receiver : Value) → (rest operands : List Value) → Blocks
    → (cells : List (Option Value)) (heap : List Object) → Progress → (changed : List (Option Value)) (grown : List Object) → Type 0
ChangesBy name o v rest vs blocks cells heap p changed grown =
    Drops o → (slots : List Slot) (program : Program) (code : CodeObject Value) (i : Ins) (h : Here Value) (st : Stores) → KnowsBlocks program blocks
    → told program code i h p (slots_view slots) (with_parts changed grown st)
    ≡ by_tree code i (behind code i (slots_view slots)) (slots_view slots)
    (changed_by program (method_of heap v name) v rest (operated program done o vs h (with_parts cells heap st)) h (with_parts cells heap st))

-- the value on top is unpacked: so many items of it, or so many before a list and behind it
unfoldable pub Unpacks : (before : ℕ) (after : Option ℕ) → Blocks → (old : List Slot) (cells : List (Option Value)) (heap : List Object)
    → Progress → (new : List Slot) (changed : List (Option Value)) (grown : List Object) → Type 0
Unpacks before after blocks old cells heap p new changed grown =
    (star : Option ℕ) → unpacking (row_count before after) star ≡ unpacks before after
    → (program : Program) (code : CodeObject Value) (i : Ins) (h : Here Value) (st : Stores) → KnowsBlocks program blocks
    → told program code i h p (slots_view new) (with_parts changed grown st)
    ≡ reached program code i h (with_parts cells heap st)
    (one (slots_view old)
    (λ v below. asks code i (T.unpack v (row_count before after) star) below (λ vs. on i.next (giving (row_count before after) vs below))))
