-- What code answers of an instruction, as where it leads.
use Rattle.std.specs.Prelude.{◌≡◌, ◌+◌, ℕ, List, [], ◌∷◌, Bool, true, false, Option, Some, None, drop}
use Rattle.pt_base.specs.declared.numbers.BlockId.{BlockId}
use Rattle.pt_base.specs.declared.numbers.Pc.{Pc}
use Rattle.pt_heap.specs.declared.value.Value.{Value}
use Rattle.pt_heap.specs.declared.completion.Completion.{Completion}
use Rattle.pt_heap.specs.declared.completion.Completion.TheVariants.{Normal, Raise, Return, Leave}
use Rattle.pt_bind.specs.declared.arguments.Locals.{Locals}
use Rattle.pt_content.specs.declared.op.Op.{Op}
use Rattle.pt_content.specs.declared.op.Op.TheVariants as op
use Rattle.pt_frames.specs.declared.slot.Slot.{Slot}
use Rattle.pt_frames.specs.Slots.{active_in}
use Rattle.pt_code.specs.View.{Ins}
use Rattle.sem_code.specs.slots.Slots as S
use Rattle.sem_code.specs.slots.Slots.{Slots, State, on, reraises}
use Rattle.sem_code.specs.slots.CodeObject.{CodeObject}
use Rattle.sem_code.specs.slots.Landing.{land}
use Rattle.sem_code.specs.slots.Pops.{giving as row_over}
use Rattle.sem_code.specs.slots.Steps.{with_item}
use Rattle.sem_control.specs.control.Turn as T
use Rattle.sem_run.specs.run.Machine as M
use Rattle.sem_run.specs.run.Host.{Here, Opening, BlockResult, an_item, answer, opens}
use Rattle.pt_frames.specs.declared.purpose.Purpose.{Purpose}
use Rattle.pt_frames.specs.declared.purpose.Purpose.TheVariants.{Init, Class, Discard, Enter, Exit, Format, Item, Iterate, Opposite, Truth, Unpack}
use Rattle.pt_host.specs.World.{Names, Stores, Program, CodeFacts}
use Rattle.pt_host.specs.Trees.{Tree, then_with}
use Rattle.pt_host.specs.Classes.{class_by}
use Rattle.pt_host.specs.Errors.{raise_error, raise_saying}
use Rattle.pt_host.specs.Answers.{or_end, swallows}
use Rattle.pt_host.specs.Primitives.{answer_if, arguments_of, prim_asked, so_many, truth_in}
use Rattle.pt_host.specs.Calls.{by_prim, opposite, result_of}
use Rattle.pt_host.specs.Raising.{raise_active, raise_object}
use Rattle.sem_run.specs.transitions.Successors.{to, behind_print, behind_request, outside, none}
use Rattle.sem_rows.specs.declared.heap_rows.progress.Progress.{Progress}
use Rattle.sem_rows.specs.declared.heap_rows.progress.Progress.TheVariants as progress
use Rattle.sem_rows.specs.heap_rows.Leads.{HeapSuccessor}
use Rattle.sem_rows.specs.heap_rows.Leads.{behind, by_tree, found, giving}
use Rattle.sem_rows.specs.heap_rows.Views.{completion_view, names_in}

abbrev pub block_id : BlockId → (hidden : Bool) → M.BlockId
block_id b hidden = record { hidden = hidden; number = b.0 }

-- a block that is called begins with these names
abbrev pub opening_of : Program → M.BlockId → Locals → Opening Names Value
opening_of program b ls = record { block = b; iterator = None; names = names_in (program.facts b) ls.values ls.cells [] }

-- what the value of a block is for that is that of an ask: the value of the call, its opposite (6.10.2), an instance whose `__init__` it is (3.3.1), a text that is laid out
-- (2.4.3), a class, which is made of its names (8.8)
abbrev pub taken : CodeFacts → Purpose → BlockResult Names Value → Here Value → Stores → Tree Value
taken facts (Init made) r h st = then_with (result_of r.end st) (λ v st1. answer made st1)
taken facts Opposite r h st = then_with (result_of r.end st) (λ v st1. answer (opposite v) st1)
taken facts (Format spec) r h st = then_with (result_of r.end st) (λ v st1. by_prim (op.Format None) (v ∷ spec ∷ []) h st1)
taken facts (Class base cell) r h st = class_by r.end base facts cell r.names.values h st
taken facts why r h st = result_of r.end st

-- so many values are unpacked, or so many before a list and behind it (7.2)
abbrev pub row_count : (before : ℕ) → (after : Option ℕ) → ℕ
row_count n None = n
row_count n (Some m) = n + 1 + m

abbrev pub unpacks : (before : ℕ) → (after : Option ℕ) → Op
unpacks n None = op.Unpack n
unpacks n (Some m) = op.UnpackStar n m

module _ (program : Program) (code : CodeObject Value) (i : Ins) where
  -- what leaves the place goes on where it lands
  abbrev pub behind_leave : Completion → Slots Value → State Value
  behind_leave Normal ss = on i.next ss
  behind_leave (Raise v) ss = land code i.rows (S.raise v) ss
  behind_leave (Return v) ss = land code i.rows (S.return v) ss
  behind_leave (Leave target) ss = land code i.rows (S.jump_to target.0) ss

  -- a truth leads to a place where it is as wanted, with what is kept, and else behind the instruction (6.11, 6.13, 8.1, 8.2)
  abbrev pub kept_over : Option Value → Slots Value → Slots Value
  kept_over (Some v) ss = S.value v ∷ ss
  kept_over None ss = ss

  abbrev pub branched : (wanted : Bool) → (target : Pc) → (kept : Option Value) → Slots Value → Bool → State Value
  branched true target k ss true = on target.0 (kept_over k ss)
  branched true target k ss false = on i.next ss
  branched false target k ss true = on i.next ss
  branched false target k ss false = on target.0 (kept_over k ss)

  -- where the result of a block leads, by what it was run for
  abbrev pub resumed : CodeFacts → Purpose → Slots Value → BlockResult Names Value → Here Value → Stores → HeapSuccessor
  resumed facts (Truth wanted target kept) ss r h st =
      by_tree code i (branched wanted target kept ss) ss
      (then_with (result_of r.end st) (λ v st1. answer_if (truth_in v) st1))
  resumed facts Iterate ss r h st =
      by_tree code i (λ v. on i.next (S.iterator v ∷ ss)) ss (result_of r.end st)
  resumed facts (Item iterator end) ss r h st =
      by_tree code i (found (T.next_of iterator) (with_item code i end.0 iterator ss)) ss
      (or_end (then_with (result_of r.end st) (λ v st1. answer (an_item v) st1)))
  resumed facts (Unpack before after) ss r h st =
      by_tree code i (λ vs. on i.next (row_over (row_count before after) vs ss)) ss
      (then_with (result_of r.end st) (λ v st1. prim_asked (so_many (row_count before after)) (unpacks before after) (v ∷ []) h st1))
  resumed facts Discard ss r h st =
      by_tree code i (behind code i ss) ss (then_with (result_of r.end st) (λ v st1. answer tt st1))
  resumed facts (Enter exit) ss r h st =
      by_tree code i (λ (p : Value × Value). on i.next (S.value p.1 ∷ S.exit p.0 ∷ ss)) ss
      (then_with (result_of r.end st) (λ v st1. answer (exit, v) st1))
  -- the slots of an exit stay on while its block runs: the raise that it holds is active
  resumed facts (Exit completion) ss r h st =
      by_tree code i (λ b. on i.next (S.pending (S.left_of b (completion_view completion)) ∷ drop 2 ss)) (drop 2 ss)
      (then_with (result_of r.end st) (λ v st1. swallows (S.raise_of (completion_view completion)) v h st1))
  resumed facts why ss r h st = by_tree code i (giving code i ss) ss (taken facts why r h st)

  abbrev pub told : Here Value → Progress → Slots Value → Stores → HeapSuccessor
  told h progress.Next ss st = to (on i.next ss) st
  told h (progress.Goto pc) ss st = to (on pc.0 ss) st
  told h (progress.Leaves how) ss st = to (behind_leave how ss) st
  told h (progress.Reraises e) ss st = to (reraises e i.rows ss) st
  told h (progress.Print t) ss st = behind_print t (to (on i.next ss) st)
  told h (progress.Calls block hidden ls why) ss st =
      behind_request (opens (opening_of program (block_id block hidden) ls)) st
      (λ r st1. resumed (program.facts (block_id block hidden)) why ss r h st1)
  told h (progress.Raises e) ss st = by_tree code i (giving code i ss) ss (raise_object e st.world.heap h st)
  told h progress.RaisesAgain ss st = by_tree code i (giving code i ss) ss (raise_active h.active h st)
  told h (progress.Fails class arg) ss st = by_tree code i (giving code i ss) ss (raise_error class (arguments_of arg) h st)
  told h (progress.FailsSaying class t) ss st = by_tree code i (giving code i ss) ss (raise_saying class t h st)
  told h (progress.Outside what) ss st = outside what
  told h progress.Lacks ss st = none

-- where an exception may arise in the activation, the one that is active is the same as before (7.8)
abbrev pub IfActive : Progress → Type 0 → Type 0
IfActive (progress.Raises e) A = A
IfActive progress.RaisesAgain A = A
IfActive (progress.Fails class arg) A = A
IfActive (progress.FailsSaying class t) A = A
IfActive (progress.Calls block hidden ls why) A = A
IfActive p A = Unit {0}

abbrev pub KeepsActive : Progress → (old new : List Slot) → Type 0
KeepsActive p old new = IfActive p (active_in new ≡ active_in old)
