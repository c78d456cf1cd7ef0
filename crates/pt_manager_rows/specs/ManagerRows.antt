-- When code does with context managers what the host's answers lead to (Language Reference 8.5).
use Rattle.std.specs.Prelude.{◌≡◌, ◌∷◌, List, [], Bool, Option, Some, None, Result, Ok, drop}
use Rattle.pt_base.specs.declared.what.What.TheVariants.{Feature}
use Rattle.pt_heap.specs.declared.value.Value.{Value}
use Rattle.pt_heap.specs.declared.object.Object.{Object}
use Rattle.pt_heap.specs.declared.object.Function.{Function}
use Rattle.pt_heap.specs.declared.completion.Completion.{Completion}
use Rattle.pt_bind.specs.declared.arguments.Args.{Args}
use Rattle.pt_bind.specs.declared.arguments.Locals.{Locals}
use Rattle.pt_frames.specs.declared.slot.Slot.{Slot}
use Rattle.pt_frames.specs.declared.slot.Slot.TheVariants as slot
use Rattle.pt_content.specs.pt_attrs.declared.look.Found.{Found}
use Rattle.pt_content.specs.pt_attrs.Look.{object_of}
use Rattle.pt_code.specs.View.{Ins}
use Rattle.sem_code.specs.slots.Slots as S
use Rattle.sem_code.specs.slots.Slots.{Slots, State, on}
use Rattle.sem_code.specs.slots.CodeObject.{CodeObject}
use Rattle.sem_run.specs.run.Host.{Here, leave}
use Rattle.pt_block_calls.specs.pt_operators.pt_moves.sem_rows.pt_host.World.{Program, Stores}
use Rattle.pt_block_calls.specs.pt_operators.pt_moves.sem_rows.pt_host.Trees.{Tree, then_with}
use Rattle.pt_block_calls.specs.pt_operators.pt_moves.sem_rows.pt_host.Calls.{block_of, call_block, call_found}
use Rattle.pt_block_calls.specs.pt_operators.pt_moves.sem_rows.pt_host.declared.managers.Manager.{Manager}
use Rattle.pt_block_calls.specs.pt_operators.pt_moves.sem_rows.pt_host.declared.managers.Manager.TheVariants as manager
use Rattle.pt_block_calls.specs.pt_operators.pt_moves.sem_rows.pt_host.Answers.{entered, exit, exits, swallows}
use Rattle.pt_block_calls.specs.pt_operators.pt_moves.sem_rows.declared.heap_rows.progress.Progress.{Progress}
use Rattle.pt_block_calls.specs.pt_operators.pt_moves.sem_rows.heap_rows.Leads.{HeapSuccessor, by_tree}
use Rattle.pt_block_calls.specs.pt_operators.pt_moves.sem_rows.heap_rows.Told.{told}
use Rattle.pt_block_calls.specs.pt_operators.pt_moves.sem_rows.heap_rows.Views.{completion_view, slots_view}
use Rattle.pt_block_calls.specs.pt_function_rows.pt_code_facts.declared.facts.BlockFacts.{BlockFacts}
use Rattle.pt_block_calls.specs.pt_function_rows.pt_code_facts.declared.facts.Blocks.{Blocks}
use Rattle.pt_block_calls.specs.pt_function_rows.pt_code_facts.Facts.{facts_view, KnowsBlocks}
use Rattle.pt_block_calls.specs.pt_class_rows.Calls.{with_parts}
use Rattle.pt_block_calls.specs.declared.blocks.Given.TheVariants as given
use Rattle.pt_block_calls.specs.BlockCalls.{CallsFor}

abbrev pub methods : (enter : Found) (exit : Value) → Manager
methods e f = manager.Methods e f

-- what a manager gives as it is entered lies above what is called as it is left
module _ (i : Ins) where
  abbrev pub entered_over : Slots Value → Value × Value → State Value
  entered_over ss p = on i.next (S.value p.1 ∷ S.exit p.0 ∷ ss)

  -- what it leaves of a completion lies in the place of both
  abbrev pub left_over : Completion → Slots Value → Bool → State Value
  left_over c ss b = on i.next (S.pending (S.left_of b (completion_view c)) ∷ drop 2 ss)

-- a manager is entered by the call of its method, where this is called as it is left
unfoldable pub EntersBy : (enter : Found) → (manager exit : Value) → Blocks → (slots : List Slot) (cells : List (Option Value)) (heap : List Object)
    → Progress → (changed : List (Option Value)) (grown : List Object) → Type 0
EntersBy e v w blocks slots cells heap p changed grown =
    CallsFor (given.Enter w) (λ program h st. KnowsBlocks program blocks) (λ program h st. call_found program (Some e) v [] (leave Feature) h st) slots cells heap p
    changed grown

-- it is entered, by what it is entered and left by
unfoldable pub Enters : Manager → Value → Blocks → (slots : List Slot) (cells : List (Option Value)) (heap : List Object)
    → Progress → (changed : List (Option Value)) (grown : List Object) → Type 0
Enters m v blocks slots cells heap p changed grown =
    (program : Program) (code : CodeObject Value) (i : Ins) (h : Here Value) (st : Stores) → KnowsBlocks program blocks
    → told program code i h p (slots_view slots) (with_parts changed grown st)
    ≡ by_tree code i (entered_over i (slots_view slots)) (slots_view slots) (entered program m v h (with_parts cells heap st))

-- by which completion a manager is left, and what is called then
abbrev pub held_in : (top below : Option Slot) → Option (Completion × Value)
held_in (Some (slot.Pending c)) (Some (slot.With w)) = Some (c, w)
held_in o q = None

abbrev pub held_on : List Slot → Option (Completion × Value)
held_on (slot.Pending c ∷ (slot.With w ∷ slots)) = Some (c, w)
held_on slots = None

-- where the answer to the call leads
module _ (code : CodeObject Value) (i : Ins) where
  abbrev pub left_for : Completion → Slots Value → Here Value → Tree Value → HeapSuccessor
  left_for c ss h t =
      by_tree code i (left_over i c ss) (drop 2 ss) (then_with t (λ v st. swallows (S.raise_of (completion_view c)) v h st))

-- of a block with these facts, whose parameters are bound so
unfoldable pub RunsExit : BlockFacts → Function → Locals → Completion → (slots : List Slot) (cells : List (Option Value)) (heap : List Object)
    → Progress → (changed : List (Option Value)) (grown : List Object) → Type 0
RunsExit facts f ls c slots cells heap p changed grown =
    (program : Program) (code : CodeObject Value) (i : Ins) (h : Here Value) (st : Stores) → program.facts (block_of f) ≡ facts_view facts
    → told program code i h p (slots_view slots) (with_parts changed grown st)
    ≡ left_for code i c (slots_view slots) h (call_block (program.facts (block_of f)) f (Ok ls) h (with_parts cells heap st))

-- of the function that a value is
unfoldable pub LeavesBy : Blocks → (callee : Value) → Args → Completion → (slots : List Slot) (cells : List (Option Value)) (heap : List Object)
    → Progress → (changed : List (Option Value)) (grown : List Object) → Type 0
LeavesBy blocks v args c slots cells heap p changed grown =
    (program : Program) (code : CodeObject Value) (i : Ins) (h : Here Value) (st : Stores) → KnowsBlocks program blocks
    → told program code i h p (slots_view slots) (with_parts changed grown st)
    ≡ left_for code i c (slots_view slots) h (exits program (object_of heap v) args h (with_parts cells heap st))

-- a manager is left by a completion, where this is called
unfoldable pub Leaves : (exit : Value) → Completion → Blocks → (slots : List Slot) (cells : List (Option Value)) (heap : List Object)
    → Progress → (changed : List (Option Value)) (grown : List Object) → Type 0
Leaves w c blocks slots cells heap p changed grown =
    (program : Program) (code : CodeObject Value) (i : Ins) (h : Here Value) (st : Stores) → KnowsBlocks program blocks
    → told program code i h p (slots_view slots) (with_parts changed grown st)
    ≡ by_tree code i (left_over i c (slots_view slots)) (drop 2 (slots_view slots))
    (exit program w (S.raise_of (completion_view c)) h (with_parts cells heap st))
