-- When code does with calls of blocks what the host's answers lead to, and with operations that may ask functions of the prelude
-- (Language Reference 3.3, 6.3.4).
use Rattle.std.specs.Prelude.{◌≡◌, ◌∷◌, ℕ, List, [], Bool, true, false, Option, Some, None, Result, Ok, Err, slice_get, option_map, if◌then◌else◌}
use Rattle.pt_base.specs.declared.numbers.ObjId.{ObjId}
use Rattle.pt_base.specs.declared.what.What.TheVariants.{Feature, Heap}
use Rattle.pt_heap.specs.declared.value.Value.{Value}
use Rattle.pt_heap.specs.declared.value.Value.TheVariants as value
use Rattle.pt_heap.specs.declared.object.Object.{Object}
use Rattle.pt_heap.specs.declared.object.Object.TheVariants as object
use Rattle.pt_heap.specs.declared.object.Function.{Function}
use Rattle.pt_prelude.specs.declared.kinds.Helper.{Helper}
use Rattle.pt_helper_objects.specs.Objects.{helper_place}
use Rattle.pt_bind.specs.Binding.{IsTold}
use Rattle.pt_bind.specs.declared.arguments.Args.{Args}
use Rattle.pt_bind.specs.declared.arguments.BindErr.{BindErr}
use Rattle.pt_bind.specs.declared.arguments.Locals.{Locals}
use Rattle.pt_frames.specs.declared.slot.Slot.{Slot}
use Rattle.pt_frames.specs.declared.purpose.Purpose.{Purpose}
use Rattle.pt_frames.specs.declared.purpose.Purpose.TheVariants as purpose
use Rattle.pt_content.specs.declared.op.Op.{Op}
use Rattle.pt_content.specs.declared.op.Op.TheVariants as op
use Rattle.pt_content.specs.declared.answer.Helper.{Helper as Asked}
use Rattle.pt_content.specs.declared.answer.Helper.TheVariants as asked
use Rattle.pt_content.specs.declared.answer.PrimAns.{PrimAns}
use Rattle.pt_content.specs.declared.answer.PrimAns.TheVariants as prim
use Rattle.pt_content.specs.pt_attrs.Look.{object_of}
use Rattle.sem_control.specs.control.Turn as T
use Rattle.sem_control.specs.control.Turn.{Answer, Ask}
use Rattle.pt_instr.specs.declared.Instr.{Instr}
use Rattle.pt_code.specs.View.{Ins}
use Rattle.sem_code.specs.slots.Slots as S
use Rattle.sem_code.specs.slots.Slots.{Slots, State, on}
use Rattle.sem_code.specs.slots.CodeObject.{CodeObject}
use Rattle.sem_code.specs.slots.Pops.{giving as row_over}
use Rattle.sem_code.specs.slots.Steps.{with_item}
use Rattle.sem_run.specs.run.Host.{Here, an_item, answer, leave}
use Rattle.pt_operators.specs.pt_prims.Operations.{prim_answer, prim_heap}
use Rattle.pt_operators.specs.pt_moves.sem_rows.pt_host.declared.places.TheConstants.{TYPE_ERROR}
use Rattle.pt_operators.specs.pt_moves.sem_rows.pt_host.World.{Stores, Program, with_objects}
use Rattle.pt_operators.specs.pt_moves.sem_rows.pt_host.Texts.{binding_text}
use Rattle.pt_operators.specs.pt_moves.sem_rows.pt_host.Trees.{Tree, made_all, then_with}
use Rattle.pt_operators.specs.pt_moves.sem_rows.pt_host.Calls.{ask, ask_with, asked_in_place, block_of, by_prim, by_prim_or_helper, call_block, call_function, call_function_at, helper_arguments, objects_for, opposite}
use Rattle.pt_operators.specs.pt_moves.sem_rows.pt_host.Answers.{answers, or_end_behind}
use Rattle.pt_operators.specs.pt_moves.sem_rows.pt_host.Primitives.{answer_if, one_value, prim_asked, so_many, truth_in}
use Rattle.pt_operators.specs.pt_moves.sem_rows.declared.heap_rows.progress.Progress.{Progress}
use Rattle.pt_operators.specs.pt_moves.sem_rows.declared.heap_rows.progress.Progress.TheVariants as progress
use Rattle.pt_operators.specs.pt_moves.sem_rows.heap_rows.Leads.{HeapSuccessor, behind, by_tree, found, giving}
use Rattle.pt_operators.specs.pt_moves.sem_rows.heap_rows.RowsIn.{RowsIn}
use Rattle.pt_operators.specs.pt_moves.sem_rows.heap_rows.Told.{branched, row_count, told, unpacks}
use Rattle.pt_operators.specs.pt_moves.sem_rows.heap_rows.Views.{slots_view}
use Rattle.pt_function_rows.specs.pt_code_facts.declared.facts.BlockFacts.{BlockFacts}
use Rattle.pt_function_rows.specs.pt_code_facts.declared.facts.Blocks.{Blocks}
use Rattle.pt_function_rows.specs.pt_code_facts.Facts.{facts_view, KnowsBlocks}
use Rattle.pt_class_rows.specs.Calls.{Calls, with_parts}
use Rattle.pt_block_calls.specs.declared.blocks.Given.{Given}
use Rattle.pt_block_calls.specs.declared.blocks.Given.TheVariants as given

-- the function that a value is

abbrev pub function_in : Option Object → Option Function
function_in (Some (object.Function f)) = Some f
function_in o = None

abbrev pub function_of : List Object → Value → Option Function
function_of heap (value.Obj id) = function_in (slice_get heap id.0)
function_of heap v = None

-- values as arguments without names
abbrev pub without_names : List Value → Args
without_names vs = record { plain = vs; named = [] }

abbrev pub misfit : BlockFacts → (hidden : Bool) → BindErr → Progress
misfit facts hidden e = if hidden then progress.Outside Feature else progress.FailsSaying TYPE_ERROR (binding_text facts.name e)

-- a function without the defaults, which have done their part once its arguments are bound
abbrev pub without_defaults : Function → Function
without_defaults f = record { block = f.block; hidden = f.hidden; defaults = []; cells = f.cells }

-- what a block is run for, by what its call gives
abbrev pub purpose_of : Given → Purpose
purpose_of given.Itself = purpose.Result
purpose_of (given.Made v) = purpose.Init v
purpose_of given.Opposite = purpose.Opposite
purpose_of (given.Laid spec) = purpose.Format spec
purpose_of (given.Truth wanted target kept) = purpose.Truth wanted target kept
purpose_of given.Iterate = purpose.Iterate
purpose_of (given.Item iterator end) = purpose.Item iterator end
purpose_of (given.Unpack before after) = purpose.Unpack before after
purpose_of given.Discard = purpose.Discard
purpose_of (given.Enter exit) = purpose.Enter exit

-- where the answer to a call leads, by what is made of the value of the block then
module _ (program : Program) (code : CodeObject Value) (i : Ins) where
  abbrev pub led_for : Given → Slots Value → Here Value → Tree Value → HeapSuccessor
  led_for given.Itself ss h t = by_tree code i (giving code i ss) ss t
  led_for (given.Made v) ss h t = by_tree code i (giving code i ss) ss (then_with t (λ r st. answer v st))
  led_for given.Opposite ss h t = by_tree code i (giving code i ss) ss (then_with t (λ r st. answer (opposite r) st))
  led_for (given.Laid spec) ss h t =
      by_tree code i (giving code i ss) ss (then_with t (λ r st. by_prim (op.Format None) (r ∷ spec ∷ []) h st))
  led_for (given.Truth wanted target kept) ss h t =
      by_tree code i (branched program code i wanted target kept ss) ss (then_with t (λ r st. answer_if (truth_in r) st))
  led_for given.Iterate ss h t = by_tree code i (λ it. on i.next (S.iterator it ∷ ss)) ss t
  led_for (given.Item iterator end) ss h t =
      by_tree code i (found (T.next_of iterator) (with_item code i end.0 iterator ss)) ss
      (or_end_behind (then_with t (λ r st. answer (an_item r) st)))
  led_for (given.Unpack before after) ss h t =
      by_tree code i (λ vs. on i.next (row_over (row_count before after) vs ss)) ss
      (then_with t (λ r st. prim_asked (so_many (row_count before after)) (unpacks before after) (r ∷ []) h st))
  led_for given.Discard ss h t = by_tree code i (behind code i ss) ss (then_with t (λ r st. answer tt st))
  led_for (given.Enter exit) ss h t =
      by_tree code i (λ (p : Value × Value). on i.next (S.value p.1 ∷ S.exit p.0 ∷ ss)) ss (then_with t (λ r st. answer (exit, r) st))

-- in programs of which this holds, what code did with the cells and the heap is where the answer to a call leads
abbrev pub CallsFor : Given → (Program → Here Value → Stores → Type 0) → (Program → Here Value → Stores → Tree Value)
    → (slots : List Slot) (cells : List (Option Value)) (heap : List Object)
    → Progress → (changed : List (Option Value)) (grown : List Object) → Type 0
CallsFor g Where tree slots cells heap p changed grown =
    (program : Program) (code : CodeObject Value) (i : Ins) (h : Here Value) (st : Stores) → Where program h st
    → told program code i h p (slots_view slots) (with_parts changed grown st)
    ≡ led_for program code i g (slots_view slots) h (tree program h (with_parts cells heap st))

-- of a block with these facts, whose parameters are bound so
unfoldable pub CallsBlock : BlockFacts → Function → Result Locals BindErr → Given → List Slot → (cells : List (Option Value)) (heap : List Object)
    → Progress → (changed : List (Option Value)) (grown : List Object) → Type 0
CallsBlock facts f r g slots cells heap p changed grown =
    CallsFor g (λ program h st. program.facts (block_of f) ≡ facts_view facts)
    (λ program h st. call_block (program.facts (block_of f)) f r h st) slots cells heap p changed grown

-- of a block, by what the binding of its arguments came to
abbrev pub IsBinding : Result Locals BindErr → (bound : Result Locals BindErr) → Type 0
IsBinding r (Ok ls) = r ≡ Ok ls
IsBinding r (Err e) = IsTold r e

unfoldable pub CallsBound : BlockFacts → Function → (bound : Result Locals BindErr) → Given → List Slot → (cells : List (Option Value)) (heap : List Object)
    → Progress → (changed : List (Option Value)) (grown : List Object) → Type 0
CallsBound facts f bound g slots cells heap p changed grown =
    (r : Result Locals BindErr) → IsBinding r bound → CallsBlock facts f r g slots cells heap p changed grown

-- of a function
unfoldable pub CallsFunction : Blocks → Function → Args → Given → (slots : List Slot) (cells : List (Option Value)) (heap : List Object)
    → Progress → (changed : List (Option Value)) (grown : List Object) → Type 0
CallsFunction blocks f args g slots cells heap p changed grown =
    CallsFor g (λ program h st. KnowsBlocks program blocks) (λ program h st. call_function (program.facts (block_of f)) f args h st)
    slots cells heap p changed grown

-- of the function that a value is
unfoldable pub CallsFunctionAt : Blocks → Value → Args → Given → (slots : List Slot) (cells : List (Option Value)) (heap : List Object)
    → Progress → (changed : List (Option Value)) (grown : List Object) → Type 0
CallsFunctionAt blocks v args g slots cells heap p changed grown =
    CallsFor g (λ program h st. KnowsBlocks program blocks)
    (λ program h st. call_function_at program (object_of st.world.heap v) args h st) slots cells heap p changed grown

-- of a function that is written in Python
unfoldable pub AsksHelper : Helper → Blocks → Args → Given → (slots : List Slot) (cells : List (Option Value)) (heap : List Object)
    → Progress → (changed : List (Option Value)) (grown : List Object) → Type 0
AsksHelper f blocks args g slots cells heap p changed grown =
    CallsFor g (λ program h st. KnowsBlocks program blocks) (λ program h st. ask program f args h st) slots cells heap p changed grown

-- the place that code finds for such a function
unfoldable pub IsPlaceOf : Helper → Option ObjId → Type 0
IsPlaceOf f place = option_map (λ (id : ObjId). id.0) place ≡ helper_place f

-- objects are made for it, behind the others, if there is room for them
abbrev pub three_of : (Value × (Value × Value)) → List Value
three_of q = q.0 ∷ q.1.0 ∷ q.1.1 ∷ []

unfoldable pub AreMade : List Object → (heap : List Object) → Option (List Value) → (grown : List Object) → Type 0
AreMade os heap (Some vs) grown = (st : Stores) → ◌≡◌ {A = Tree (List Value)} (made_all os (with_objects heap st)) (answer vs (with_objects grown st))
AreMade os heap None grown = (st : Stores) → ◌≡◌ {A = Tree (List Value)} (made_all os (with_objects heap st)) (leave Heap)

unfoldable pub MakesArguments : Asked → List Value → (heap : List Object) → Option Args → (grown : List Object) → Type 0
MakesArguments a vs heap (Some args) grown = (ms : List Value) × (AreMade (objects_for a vs) heap (Some ms) grown × (args ≡ helper_arguments a vs ms))
MakesArguments a vs heap None grown = AreMade (objects_for a vs) heap None grown

-- such a function is asked with these operands
unfoldable pub AsksWith : Asked → List Value → Given → Blocks → (slots : List Slot) (cells : List (Option Value)) (heap : List Object)
    → Progress → (changed : List (Option Value)) (grown : List Object) → Type 0
AsksWith a vs g blocks slots cells heap p changed grown =
    CallsFor g (λ program h st. KnowsBlocks program blocks) (λ program h st. ask_with program a vs h st) slots cells heap p changed grown

-- what an operation gives then
abbrev pub by_truth : (inverted : Bool) → Given
by_truth true = given.Opposite
by_truth false = given.Itself

abbrev pub format_given : List Value → (inverted : Bool) → Given
format_given (x ∷ spec ∷ vs) b = given.Laid spec
format_given vs b = by_truth b

abbrev pub in_place_given : Asked → List Value → (inverted : Bool) → Given
in_place_given asked.ExtendOf (l ∷ vs) b = given.Made l
in_place_given a vs b = by_truth b

abbrev pub given_for : Op → Asked → List Value → (inverted : Bool) → Given
given_for (op.Format c) a vs b = format_given vs b
given_for (op.InPlace o) a vs b = in_place_given a vs b
given_for op.Truth a vs b = given.Itself
given_for op.Iter a vs b = given.Itself
given_for o a vs b = by_truth b

-- of what an operation answered, which may ask such a function in its place, and of an operation
unfoldable pub CallsAnswered : Op → PrimAns → Blocks → (old : List Slot) (cells : List (Option Value)) (heap : List Object)
    → Progress → (new : List Slot) (changed : List (Option Value)) (grown : List Object) → Type 0
CallsAnswered o a blocks old cells heap p new changed grown =
    Calls (λ program h st. KnowsBlocks program blocks) (λ program h st. asked_in_place program one_value o a h st) old cells heap p new changed grown

unfoldable pub OperatesOrAsks : Op → List Value → Blocks → (old : List Slot) (cells : List (Option Value)) (heap : List Object)
    → Progress → (new : List Slot) (changed : List (Option Value)) (grown : List Object) → Type 0
OperatesOrAsks o vs blocks old cells heap p new changed grown =
    Calls (λ program h st. KnowsBlocks program blocks) (λ program h st. by_prim_or_helper program o vs h st) old cells heap p new changed grown

-- an operation that code asked for: its answer, which asks no function of the prelude, or what asking such a function came to
abbrev pub is_help : PrimAns → Bool
is_help (prim.Help a vs inverted) = true
is_help a = false

unfoldable pub AsksFor : Op → List Value → Given → Blocks → (cells : List (Option Value)) (heap : List Object)
    → Result PrimAns Progress → (changed : List (Option Value)) (grown : List Object) → Type 0
AsksFor o vs g blocks cells heap (Ok a) changed grown =
    ((a ≡ prim_answer o vs heap) × (is_help a ≡ false)) × ((grown ≡ prim_heap o vs heap) × (changed ≡ cells))
AsksFor o vs g blocks cells heap (Err p) changed grown =
    (a : Asked) × ((us : List Value) × ((b : Bool) × ((prim_answer o vs heap ≡ prim.Help a us b)
    × ((slots : List Slot) → AsksWith a us g blocks slots cells (prim_heap o vs heap) p changed grown))))

-- what code did with the slots, the cells and the heap is the row of an instruction, in programs with these blocks
unfoldable pub RowsOperation : Instr → Blocks → (old : List Slot) (cells : List (Option Value)) (heap : List Object)
    → Progress → (new : List Slot) (changed : List (Option Value)) (grown : List Object) → Type 0
RowsOperation j blocks old cells heap p new changed grown =
    (st : Stores) → RowsIn (λ s. KnowsBlocks s.program blocks) j old (with_parts cells heap st) p new (with_parts changed grown st)

-- what code did with the slots below what was taken, the cells and the heap is where the answer to an ask leads
unfoldable pub AnswersAsk : (a : Ask Value) → (CodeObject Value → Ins → Slots Value → Answer Value a → State Value) → Blocks
    → (old : List Slot) (cells : List (Option Value)) (heap : List Object)
    → Progress → (new : List Slot) (changed : List (Option Value)) (grown : List Object) → Type 0
AnswersAsk a next blocks old cells heap p new changed grown =
    (program : Program) (code : CodeObject Value) (i : Ins) (h : Here Value) (st : Stores) → KnowsBlocks program blocks
    → told program code i h p (slots_view new) (with_parts changed grown st)
    ≡ by_tree code i (found a (next code i (slots_view old))) (slots_view old) (answers program a h (with_parts cells heap st))
