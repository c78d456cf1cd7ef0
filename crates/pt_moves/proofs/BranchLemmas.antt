-- Where tests lead that decide where code goes on.
use Rattle.std.proofs.Common.{◌≡◌, ◌∙◌, [], ◌∷◌, List, Bool, true, false, Option, Some, None, refl, sym, ap, subst}
use Rattle.std.specs.Prelude.{drop, if◌then◌else◌}
use Rattle.pt_base.specs.declared.numbers.Pc.{Pc}
use Rattle.pt_ranges.specs.declared.lines.ActMark.{ActMark}
use Rattle.pt_instr.specs.declared.Instr.TheVariants as instr
use Rattle.pt_heap.specs.declared.value.Value.{Value}
use Rattle.pt_heap.specs.declared.value.Value.TheVariants as value
use Rattle.pt_heap.specs.declared.object.Object.{Object}
use Rattle.pt_frames.specs.declared.slot.Slot.{Slot}
use Rattle.pt_frames.specs.declared.slot.Slot.TheVariants as slot
use Rattle.pt_code.specs.View.{Ins}
use Rattle.sem_control.specs.control.Turn as T
use Rattle.sem_code.specs.slots.Slots.{Slots, State}
use Rattle.sem_code.specs.slots.CodeObject.{CodeObject}
use Rattle.sem_code.specs.slots.Steps.{asks as ask_in, unmarked, decided, dropped, branches}
use Rattle.sem_run.specs.run.Host.{Here}
use Rattle.sem_rows.specs.pt_host.World.{Stores, Program, with_objects}
use Rattle.sem_rows.specs.pt_host.Answers.{branch}
use Rattle.sem_rows.specs.pt_host.Calls.{operated}
use Rattle.sem_run.specs.transitions.Successors.{to}
use Rattle.sem_rows.specs.declared.heap_rows.progress.Progress.{Progress}
use Rattle.sem_rows.specs.declared.heap_rows.progress.Progress.TheVariants as progress
use Rattle.sem_rows.specs.heap_rows.Leads.{by_tree, HasHeapTruths, known_truth}
use Rattle.sem_rows.specs.heap_rows.Laws.{reached}
use Rattle.sem_rows.specs.heap_rows.Told.{told}
use Rattle.sem_rows.specs.heap_rows.Views.{slots_view}
use Rattle.sem_rows.proofs.heap_rows.RowLemmas.{asks_lead}
use Rattle.pt_moves.specs.Operands.{one_value, RowsHeap}
use Rattle.pt_moves.proofs.TakeLemmas.{one_on}

module _ (program : Program) (code : CodeObject Value) (i : Ins) (h : Here Value) (ss : Slots Value) (st : Stores) where
  -- a truth value is its own truth
  pub known_leads : (next : Bool → State Value) (b : Bool) → to (next b) st ≡ by_tree code i next ss (branch program (value.Bool b) h st)
  unfolding operated
  known_leads next true = refl
  known_leads next false = refl

  asks_truth : (next : Bool → State Value) (v : Value)
      → reached program code i h st (ask_in code i (T.test (T.branch v)) ss next) ≡ by_tree code i next ss (branch program v h st)
  asks_truth next v = asks_lead program code i h st (T.test (T.branch v)) next ss tt

  -- with a mark it is asked for
  known_asked : (next : Bool → State Value) (b : Bool) (m : Option ActMark)
      → reached program code i h st (unmarked m (next b) (ask_in code i (T.test (T.branch (value.Bool b))) ss next))
      ≡ by_tree code i next ss (branch program (value.Bool b) h st)
  known_asked next b None = known_leads next b
  known_asked next b (Some m) = asks_truth next (value.Bool b)

  module _ (known : HasHeapTruths code) (on_true on_false : Value → Slots Value → State Value) where
    abbrev next_of : Value → Bool → State Value
    next_of v b = decided code b on_true on_false v ss

    unknown : (v : Value) → known_truth v ≡ None
        → reached program code i h st (branches code i (code.is_truth v) on_true on_false v ss) ≡ by_tree code i (next_of v) ss (branch program v h st)
    unknown v e = ap (λ o. reached program code i h st (branches code i o on_true on_false v ss)) (known.is_truth v ∙ e) ∙ asks_truth (next_of v) v

    -- a truth that is known needn't be asked for
    pub branch_leads : (v : Value)
        → reached program code i h st (branches code i (code.is_truth v) on_true on_false v ss) ≡ by_tree code i (next_of v) ss (branch program v h st)
    branch_leads value.None = unknown value.None refl
    branch_leads (value.Bool b) = ap (λ o. reached program code i h st (branches code i o on_true on_false (value.Bool b) ss)) (known.is_truth (value.Bool b))
        ∙ known_asked (next_of (value.Bool b)) b i.mark
    branch_leads (value.Int z) = unknown (value.Int z) refl
    branch_leads value.Ellipsis = unknown value.Ellipsis refl
    branch_leads value.NotImplemented = unknown value.NotImplemented refl
    branch_leads (value.Obj id) = unknown (value.Obj id) refl

-- rows of truth values, which are dropped

module _ (place : Pc) (b : Bool) (below : List Slot) (heap : List Object) where
  jump_if_of : RowsHeap (instr.JumpIf place) (slot.Value (value.Bool b) ∷ below) heap (if b then progress.Goto place else progress.Next) below heap
  unfolding RowsHeap
  jump_if_of program code pc i h st known =
      by b
      ∙ (known_leads program code i h (slots_view below) (with_objects heap st) (λ c. decided code c (dropped place.0) (dropped i.next) (value.Bool b) (slots_view below)) b
      ∙ sym (branch_leads program code i h (slots_view below) (with_objects heap st) known (dropped place.0) (dropped i.next) (value.Bool b)))
    where
      by : (c : Bool) → told program code i h (if c then progress.Goto place else progress.Next) (slots_view below) (with_objects heap st)
          ≡ to (decided code c (dropped place.0) (dropped i.next) (value.Bool b) (slots_view below)) (with_objects heap st)
      by true = refl
      by false = refl

  jump_unless_of : RowsHeap (instr.JumpUnless place) (slot.Value (value.Bool b) ∷ below) heap (if b then progress.Next else progress.Goto place) below heap
  unfolding RowsHeap
  jump_unless_of program code pc i h st known =
      by b
      ∙ (known_leads program code i h (slots_view below) (with_objects heap st) (λ c. decided code c (dropped i.next) (dropped place.0) (value.Bool b) (slots_view below)) b
      ∙ sym (branch_leads program code i h (slots_view below) (with_objects heap st) known (dropped i.next) (dropped place.0) (value.Bool b)))
    where
      by : (c : Bool) → told program code i h (if c then progress.Next else progress.Goto place) (slots_view below) (with_objects heap st)
          ≡ to (decided code c (dropped i.next) (dropped place.0) (value.Bool b) (slots_view below)) (with_objects heap st)
      by true = refl
      by false = refl

-- the same by what was taken, for code

module _ (place : Pc) (b : Bool) (old new : List Slot) (heap : List Object) (e : one_value old ≡ Some (value.Bool b)) (f : new ≡ drop 1 old) where
  stand : old ≡ slot.Value (value.Bool b) ∷ new
  stand = one_on old (value.Bool b) e ∙ ap (λ ss. slot.Value (value.Bool b) ∷ ss) (sym f)

  pub jump_if_known : RowsHeap (instr.JumpIf place) old heap (if b then progress.Goto place else progress.Next) new heap
  jump_if_known =
      subst (λ x. RowsHeap (instr.JumpIf place) x heap (if b then progress.Goto place else progress.Next) new heap) (sym stand) (jump_if_of place b new heap)

  pub jump_unless_known : RowsHeap (instr.JumpUnless place) old heap (if b then progress.Next else progress.Goto place) new heap
  jump_unless_known =
      subst (λ x. RowsHeap (instr.JumpUnless place) x heap (if b then progress.Next else progress.Goto place) new heap) (sym stand) (jump_unless_of place b new heap)
