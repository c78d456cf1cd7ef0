-- Where the result of a block leads that was called: it answers, and what leaves the block arises,
-- unless it ends an iterator.
use Rattle.std.proofs.Common.{◌≡◌, ◌∙◌, ℕ, suc, ◌-◌, List, [], ◌∷◌, Bool, true, false, Option, Some, None, length, drop, arith, refl, sym, ap, if◌then◌else◌}
use Rattle.pt_heap.specs.declared.value.Value.{Value}
use Rattle.pt_heap.specs.declared.value.Value.TheVariants as value
use Rattle.pt_code.specs.View.{Ins}
use Rattle.pt_content.specs.declared.op.Op.TheVariants as op
use Rattle.pt_frames.specs.declared.slot.Slot.{Slot}
use Rattle.pt_frames.specs.declared.purpose.Purpose.{Purpose as For}
use Rattle.pt_frames.specs.declared.purpose.Purpose.TheVariants as why
use Rattle.sem_control.specs.control.Turn as T
use Rattle.sem_control.specs.control.Turn.{left_by}
use Rattle.sem_code.specs.slots.Slots as C
use Rattle.sem_code.specs.slots.Slots.{Slots, State as CodeState, on}
use Rattle.sem_code.specs.slots.CodeObject.{CodeObject}
use Rattle.sem_code.specs.slots.Landing.{cut, land}
use Rattle.sem_code.specs.slots.Pops.{giving as row_over}
use Rattle.sem_code.specs.slots.Steps.{with_item}
use Rattle.law_origins.proofs.Landing.{cut_given}
use Rattle.sem_run.specs.run.Host as H
use Rattle.sem_run.specs.run.Host.{Here, BlockResult, an_item, no_item}
use Rattle.sem_run.specs.transitions.Successors as leads
use Rattle.pt_reraising.specs.pt_opening.pt_host.World.{Names, Stores, CodeFacts, Program}
use Rattle.pt_reraising.specs.pt_opening.pt_host.Trees.{Tree, then_with}
use Rattle.pt_reraising.specs.pt_opening.pt_host.Leaving.{is_stop, is_stop_in}
use Rattle.pt_reraising.specs.pt_opening.pt_host.Answers.{or_end, swallows}
use Rattle.pt_reraising.specs.pt_opening.pt_host.Calls.{by_prim, opposite, result_of}
use Rattle.pt_reraising.specs.pt_opening.pt_host.Classes.{class_by}
use Rattle.pt_reraising.specs.pt_opening.pt_host.Primitives.{answer_if, prim_asked, so_many, truth_in}
use Rattle.pt_reraising.specs.pt_machine_state.pt_code_facts.sem_rows.heap_rows.Leads.{HeapSuccessor, behind, by_tree, found, giving}
use Rattle.pt_reraising.specs.pt_machine_state.pt_code_facts.sem_rows.heap_rows.Told.{branched, resumed, row_count, unpacks}
use Rattle.pt_reraising.specs.pt_machine_state.pt_code_facts.sem_rows.heap_rows.Views.{completion_view, slots_view}
use Rattle.pt_reraising.specs.pt_machine_state.Changes.{left_slots}
use Rattle.pt_reraising.specs.pt_opening.pt_purposes.Laws.{IsAnswered}
use Rattle.pt_calling.specs.Calling.{is_item}

-- no exception is a StopIteration where there are no objects
pub no_stop : (v : Value) → is_stop_in [] v ≡ false
no_stop value.None = refl
no_stop (value.Bool b) = refl
no_stop (value.Int z) = refl
no_stop value.Ellipsis = refl
no_stop value.NotImplemented = refl
no_stop (value.Obj id) = refl

-- two slots come off
pub two_off : (slots : List Slot) → slots_view (drop 2 slots) ≡ drop 2 (slots_view slots)
two_off [] = refl
two_off (a ∷ []) = refl
two_off (a ∷ b ∷ slots) = refl

length-view : (slots : List Slot) → length (slots_view slots) ≡ length slots
length-view [] = refl
length-view (s ∷ ss) = ap suc (length-view ss)

pub cut_two : (slots : List Slot)
    → cut (length slots - 2) (slots_view slots) ≡ slots_view (drop 2 slots)
cut_two [] = cut_given [] []
cut_two (a ∷ []) = cut_given (slots_view (a ∷ [])) []
cut_two (a ∷ b ∷ slots) =
    let n : suc (suc (length slots)) - 2 ≡ length (slots_view slots) =
    omega (arith, length-view slots) in
    ap (λ k. cut k (slots_view (a ∷ b ∷ slots))) n
    ∙ cut_given (slots_view (a ∷ b ∷ [])) (slots_view slots)

module _ (code : CodeObject Value) (i : Ins) where
  pub tree_answers : {A : Type 0} (next : A → CodeState Value) (ss : Slots Value) (t : Tree A)
      → IsAnswered (by_tree code i next ss t)
  tree_answers next ss (H.answer x st) = tt
  tree_answers next ss (H.raise v st) = tt
  tree_answers next ss (H.print x f) = tree_answers next ss f
  tree_answers next ss (H.leave what) = tt
  tree_answers next ss (H.request r st k) = λ x st1. tree_answers next ss (k x st1)

  module _ (program : Program) (facts : CodeFacts) (slots : List Slot) (h : Here Value) where
    abbrev ss : Slots Value
    ss = slots_view slots

    pub result_answers : (w : For) (r : BlockResult Names Value) (st : Stores)
        → IsAnswered (resumed program code i facts w ss r h st)
    result_answers why.Result r st =
        tree_answers (giving code i ss) ss
        (result_of r.end st)
    result_answers why.Discard r st =
        tree_answers (behind code i ss) ss
        (then_with (result_of r.end st) (λ v st1. H.answer tt st1))
    result_answers (why.Class base cell) r st =
        tree_answers (giving code i ss) ss
        (class_by r.end base facts cell r.names.values h st)
    result_answers (why.Init made) r st =
        tree_answers (giving code i ss) ss
        (then_with (result_of r.end st) (λ v st1. H.answer made st1))
    result_answers why.Opposite r st =
        tree_answers (giving code i ss) ss
        (then_with (result_of r.end st) (λ v st1. H.answer (opposite v) st1))
    result_answers (why.Truth wanted target kept) r st =
        tree_answers (branched program code i wanted target kept ss) ss
        (then_with (result_of r.end st) (λ v st1. answer_if (truth_in v) st1))
    result_answers why.Iterate r st =
        tree_answers (λ v. on i.next (C.iterator v ∷ ss)) ss
        (result_of r.end st)
    result_answers (why.Item it end) r st =
        tree_answers (found (T.next_of it) (with_item code i end.0 it ss)) ss
        (or_end (then_with (result_of r.end st) (λ v st1. H.answer (an_item v) st1)))
    result_answers (why.Unpack before after) r st =
        tree_answers (λ vs. on i.next (row_over (row_count before after) vs ss)) ss
        (then_with (result_of r.end st) (λ v st1. prim_asked (so_many (row_count before after)) (unpacks before after) (v ∷ []) h st1))
    result_answers (why.Enter exit) r st =
        tree_answers (λ (p : Value × Value). on i.next (C.value p.1 ∷ C.exit p.0 ∷ ss)) ss
        (then_with (result_of r.end st) (λ v st1. H.answer (exit, v) st1))
    result_answers (why.Exit completion) r st =
        tree_answers (λ b. on i.next (C.pending (C.left_of b (completion_view completion)) ∷ drop 2 ss)) (drop 2 ss)
        (then_with (result_of r.end st) (λ v st1. swallows (C.raise_of (completion_view completion)) v h st1))
    result_answers (why.Format spec) r st =
        tree_answers (giving code i ss) ss
        (then_with (result_of r.end st) (λ v st1. by_prim (op.Format None) (v ∷ spec ∷ []) h st1))
    result_answers (why.Resume g) r st =
        tree_answers (giving code i ss) ss
        (result_of r.end st)
    result_answers (why.Answer hook event block act args pending) r st =
        tree_answers (giving code i ss) ss
        (result_of r.end st)

    -- where an exception lands that leaves it
    abbrev landed : For → Value → Stores → HeapSuccessor
    landed w v st =
        leads.arises v (land code i.rows (C.raise v) (slots_view (left_slots w slots))) st

    abbrev left_with : Value → Names → BlockResult Names Value
    left_with v ns = record { end = left_by v; names = ns }

    pub left_lands : (w : For) (v : Value) (ns : Names) (st : Stores)
        → (is_item w ≡ true → is_stop v st.world ≡ false)
        → resumed program code i facts w ss (left_with v ns) h st ≡ landed w v st
    unfolding then_with or_end
    left_lands why.Result v ns st n = refl
    left_lands why.Discard v ns st n = refl
    left_lands (why.Class base cell) v ns st n = refl
    left_lands (why.Init made) v ns st n = refl
    left_lands why.Opposite v ns st n = refl
    left_lands (why.Truth wanted target kept) v ns st n = refl
    left_lands why.Iterate v ns st n = refl
    left_lands (why.Item it end) v ns st n =
        ap (λ b. by_tree code i (found (T.next_of it) (with_item code i end.0 it ss)) ss (if b then H.answer (no_item (Some v)) st else H.raise v st))
        (n refl)
    left_lands (why.Unpack before after) v ns st n = refl
    left_lands (why.Enter exit) v ns st n = refl
    left_lands (why.Exit completion) v ns st n =
        ap (λ k. leads.arises v (land code i.rows (C.raise v) k) st) (sym (two_off slots))
    left_lands (why.Format spec) v ns st n = refl
    left_lands (why.Resume g) v ns st n = refl
    left_lands (why.Answer hook event block act args pending) v ns st n = refl
