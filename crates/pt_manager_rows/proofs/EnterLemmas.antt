-- What entering a context manager comes to.
use Rattle.std.proofs.Common.{◌≡◌, ◌∙◌, List, [], ◌∷◌, Option, Some, None, refl, sym, ap, subst}
use Rattle.std.specs.Prelude.{drop, codes}
use Rattle.pt_base.specs.declared.what.What.{What}
use Rattle.pt_base.specs.declared.what.What.TheVariants.{Feature, Heap}
use Rattle.sem_control.specs.control.Turn as T
use Rattle.pt_instr.specs.declared.Instr.TheVariants as instr
use Rattle.pt_heap.specs.declared.value.Value.{Value}
use Rattle.pt_heap.specs.declared.object.Object.{Object}
use Rattle.pt_bind.specs.declared.arguments.Args.{Args}
use Rattle.pt_frames.specs.declared.slot.Slot.{Slot}
use Rattle.pt_frames.specs.declared.slot.Slot.TheVariants as slot
use Rattle.pt_content.specs.Classes.{class_name}
use Rattle.pt_content.specs.pt_attrs.declared.look.Found.{Found}
use Rattle.pt_content.specs.pt_attrs.declared.look.Found.TheVariants as found
use Rattle.pt_content.specs.pt_attrs.Look.{object_of}
use Rattle.pt_code.specs.View.{Ins}
use Rattle.sem_code.specs.slots.CodeObject.{CodeObject}
use Rattle.sem_run.specs.run.Host.{Here, answer, leave, made, beyond}
use Rattle.pt_block_calls.specs.pt_operators.pt_moves.Operands.{one_value}
use Rattle.pt_block_calls.proofs.pt_operators.pt_moves.TakeLemmas.{one_on}
use Rattle.pt_block_calls.proofs.pt_operators.pt_moves.MoveLemmas.{lacks_one, stuck_row}
use Rattle.pt_block_calls.specs.pt_operators.pt_moves.sem_rows.pt_host.declared.places.TheConstants.{ATTRIBUTE_ERROR}
use Rattle.pt_block_calls.specs.pt_operators.pt_moves.sem_rows.pt_host.declared.managers.Manager.{Manager}
use Rattle.pt_block_calls.specs.pt_operators.pt_moves.sem_rows.pt_host.declared.managers.Manager.TheVariants as manager
use Rattle.pt_block_calls.specs.pt_operators.pt_moves.sem_rows.pt_host.Managers.{manager_of}
use Rattle.pt_block_calls.specs.pt_operators.pt_moves.sem_rows.pt_host.Attributes.{bound_object}
use Rattle.pt_block_calls.specs.pt_operators.pt_moves.sem_rows.pt_host.Texts.{missing_text}
use Rattle.pt_block_calls.specs.pt_operators.pt_moves.sem_rows.pt_host.Errors.{error_saying}
use Rattle.pt_block_calls.specs.pt_operators.pt_moves.sem_rows.pt_host.World.{Allotted, IsAllotted, Program, Stores, allot}
use Rattle.pt_block_calls.specs.pt_operators.pt_moves.sem_rows.pt_host.Trees.{Tree, answer_with, then_with}
use Rattle.pt_block_calls.specs.pt_operators.pt_moves.sem_rows.pt_host.Calls.{call_found, call_function_at}
use Rattle.pt_block_calls.specs.pt_operators.pt_moves.sem_rows.pt_host.Answers.{entered}
use Rattle.pt_block_calls.specs.pt_operators.pt_moves.sem_rows.declared.heap_rows.progress.Progress.{Progress}
use Rattle.pt_block_calls.specs.pt_operators.pt_moves.sem_rows.declared.heap_rows.progress.Progress.TheVariants as progress
use Rattle.pt_block_calls.specs.pt_operators.pt_moves.sem_rows.heap_rows.Leads.{HeapSuccessor, by_tree}
use Rattle.pt_block_calls.specs.pt_operators.pt_moves.sem_rows.heap_rows.RowsIn.{RowsIn}
use Rattle.pt_block_calls.specs.pt_operators.pt_moves.sem_rows.heap_rows.Told.{told}
use Rattle.pt_block_calls.specs.pt_operators.pt_moves.sem_rows.heap_rows.Views.{slots_view}
use Rattle.pt_block_calls.proofs.pt_operators.pt_moves.sem_rows.heap_rows.RowLemmas.{asks_lead, raises_alike}
use Rattle.pt_block_calls.specs.pt_function_rows.Attributes.{missing_attribute}
use Rattle.pt_block_calls.specs.pt_function_rows.pt_code_facts.declared.facts.Blocks.{Blocks}
use Rattle.pt_block_calls.specs.pt_class_rows.Calls.{with_parts}
use Rattle.pt_block_calls.proofs.pt_class_rows.ObjectLemmas.{only_heap}
use Rattle.pt_block_calls.specs.declared.blocks.Given.TheVariants as gives
use Rattle.pt_block_calls.specs.BlockCalls.{CallsFor, CallsFunctionAt, RowsOperation, led_for, without_names}
use Rattle.pt_manager_rows.specs.ManagerRows.{Enters, EntersBy, entered_over, methods}

module _ (v : Value) (blocks : Blocks) (slots : List Slot) (cells : List (Option Value)) (heap : List Object) where
  -- by the method that it is entered by
  module _ (e : Found) (w : Value) where
    pub function_called : (f : Value) (args : Args) (p : Progress) (changed : List (Option Value)) (grown : List Object)
        → e ≡ found.Bound f → args ≡ without_names (v ∷ []) → CallsFunctionAt blocks f args (gives.Enter w) slots cells heap p changed grown
        → EntersBy e v w blocks slots cells heap p changed grown
    unfolding CallsFunctionAt EntersBy
    function_called f args p changed grown is so done program code i h st knows =
        done program code i h st knows
        ∙ ap (λ (t : Tree Value). led_for program code i (gives.Enter w) (slots_view slots) h t)
        (ap (λ a. call_function_at program (object_of heap f) a h (with_parts cells heap st)) so
        ∙ ap (λ k. call_found program (Some k) v [] (leave Feature) h (with_parts cells heap st)) (sym is))

    not_bound : (program : Program) (h : Here Value) (st : Stores) (k : Found) → ((f : Value) → k ≡ found.Bound f → ⊥)
        → ◌≡◌ {A = Tree Value} (leave Feature) (call_found program (Some k) v [] (leave Feature) h st)
    not_bound program h st (found.Bound f) n = absurd (n f refl)
    not_bound program h st (found.Plain u) n = refl
    not_bound program h st found.Unbuilt n = refl

    pub not_called : ((f : Value) → e ≡ found.Bound f → ⊥) → EntersBy e v w blocks slots cells heap (progress.Outside Feature) cells heap
    unfolding EntersBy then_with
    not_called n program code i h st knows =
        ap (λ (t : Tree Value). led_for program code i (gives.Enter w) (slots_view slots) h t) (not_bound program h (with_parts cells heap st) e n)

  -- what it is left by is bound before
  module _ (e : Found) (f : Value) where
    abbrev behind_bound : Program → CodeObject Value → Ins → Here Value → Stores → Allotted → HeapSuccessor
    behind_bound program code i h st a =
        by_tree code i (entered_over i (slots_view slots)) (slots_view slots)
        (then_with (answer_with a (with_parts cells heap st))
        (λ w st1. then_with (call_found program (Some e) v [] (leave Feature) h st1) (λ u st2. answer (w, u) st2)))

    pub exit_bound : (w : Value) (between : List Object) (p : Progress) (changed : List (Option Value)) (grown : List Object)
        → IsAllotted (allot (bound_object f v) heap) (Some w) between → EntersBy e v w blocks slots cells between p changed grown
        → Enters (methods e f) v blocks slots cells heap p changed grown
    unfolding EntersBy Enters then_with
    exit_bound w between p changed grown is done program code i h st knows = by (allot (bound_object f v) heap) is refl
      where
        by : (a : Allotted) → IsAllotted a (Some w) between → a ≡ allot (bound_object f v) heap
            → told program code i h p (slots_view slots) (with_parts changed grown st) ≡ behind_bound program code i h st (allot (bound_object f v) heap)
        by (made u k) is same =
            let one : u ≡ w = let q : ◌≡◌ {A = Option Value} (Some w) (Some u) = is.0 in cc in
            done program code i h st knows
            ∙ (ap (λ g. behind_bound program code i h st (made w g)) is.1
            ∙ (ap (λ x. behind_bound program code i h st (made x k)) (sym one) ∙ ap (λ a. behind_bound program code i h st a) same))
        by (beyond what) is same = absurd (let q : ◌≡◌ {A = Option Value} (Some w) None = is in cc)

    pub no_room : (grown : List Object) → IsAllotted (allot (bound_object f v) heap) None grown
        → Enters (methods e f) v blocks slots cells heap (progress.Outside Heap) cells grown
    unfolding Enters then_with
    no_room grown is program code i h st knows = by (allot (bound_object f v) heap) is refl
      where
        by : (a : Allotted) → IsAllotted a None grown → a ≡ allot (bound_object f v) heap
            → told program code i h (progress.Outside Heap) (slots_view slots) (with_parts cells grown st)
            ≡ behind_bound program code i h st (allot (bound_object f v) heap)
        by (made u k) is same = absurd (let q : ◌≡◌ {A = Option Value} None (Some u) = is.0 in cc)
        by (beyond what) is same =
            ap (λ (x : What). behind_bound program code i h st (beyond x)) (sym (only_heap (bound_object f v) heap what (sym same)))
            ∙ ap (λ a. behind_bound program code i h st a) same

  -- by what it is entered and left by
  module _ (m : Manager) (is : m ≡ manager_of heap v) where
    as_found : (k : Manager) (p : Progress) (changed : List (Option Value)) (grown : List Object) → m ≡ k
        → Enters k v blocks slots cells heap p changed grown → Enters (manager_of heap v) v blocks slots cells heap p changed grown
    as_found k p changed grown e done = subst (λ x. Enters x v blocks slots cells heap p changed grown) (sym e ∙ is) done

    pub by_methods : (e : Found) (f : Value) (p : Progress) (changed : List (Option Value)) (grown : List Object) → m ≡ methods e f
        → Enters (methods e f) v blocks slots cells heap p changed grown → Enters (manager_of heap v) v blocks slots cells heap p changed grown
    by_methods e f p changed grown same done = as_found (methods e f) p changed grown same done

    outside_done : Enters manager.Unavailable v blocks slots cells heap (progress.Outside Feature) cells heap
    unfolding Enters
    outside_done program code i h st knows = refl

    pub unavailable : m ≡ manager.Unavailable → Enters (manager_of heap v) v blocks slots cells heap (progress.Outside Feature) cells heap
    unavailable same = as_found manager.Unavailable (progress.Outside Feature) cells heap same outside_done

    enter_missing : Enters manager.NoEnter v blocks slots cells heap (missing_attribute heap v (codes "__enter__")) cells heap
    unfolding Enters
    enter_missing program code i h st knows =
        raises_alike code i (entered_over i (slots_view slots)) (slots_view slots)
        (error_saying ATTRIBUTE_ERROR (missing_text (class_name heap v) (codes "__enter__")) None h.active heap) (with_parts cells heap st)

    pub no_enter : (p : Progress) → m ≡ manager.NoEnter → p ≡ missing_attribute heap v (codes "__enter__")
        → Enters (manager_of heap v) v blocks slots cells heap p cells heap
    no_enter p same fails =
        as_found manager.NoEnter p cells heap same (subst (λ x. Enters manager.NoEnter v blocks slots cells heap x cells heap) (sym fails) enter_missing)

    exit_missing : Enters manager.NoExit v blocks slots cells heap (missing_attribute heap v (codes "__exit__")) cells heap
    unfolding Enters
    exit_missing program code i h st knows =
        raises_alike code i (entered_over i (slots_view slots)) (slots_view slots)
        (error_saying ATTRIBUTE_ERROR (missing_text (class_name heap v) (codes "__exit__")) None h.active heap) (with_parts cells heap st)

    pub no_exit : (p : Progress) → m ≡ manager.NoExit → p ≡ missing_attribute heap v (codes "__exit__")
        → Enters (manager_of heap v) v blocks slots cells heap p cells heap
    no_exit p same fails =
        as_found manager.NoExit p cells heap same (subst (λ x. Enters manager.NoExit v blocks slots cells heap x cells heap) (sym fails) exit_missing)

-- the row

module _ (blocks : Blocks) (cells : List (Option Value)) (heap : List Object) (p : Progress) (changed : List (Option Value)) (grown : List Object) where
  enter_of : (v : Value) (below : List Slot) → Enters (manager_of heap v) v blocks below cells heap p changed grown
      → RowsOperation instr.Enter blocks (slot.Value v ∷ below) cells heap p below changed grown
  unfolding Enters RowsOperation RowsIn
  enter_of v below done st s pc i truths knows =
      done s.program s.code i s.here st knows
      ∙ sym (asks_lead s.program s.code i s.here (with_parts cells heap st) (T.enter v) (entered_over i (slots_view below)) (slots_view below) tt)

  pub enter_row : (old : List Slot) (v : Value) (below : List Slot) → one_value old ≡ Some v → below ≡ drop 1 old
      → Enters (manager_of heap v) v blocks below cells heap p changed grown → RowsOperation instr.Enter blocks old cells heap p below changed grown
  enter_row old v below e b done =
      subst (λ x. RowsOperation instr.Enter blocks x cells heap p below changed grown) (sym (one_on old v e ∙ ap (λ ss. slot.Value v ∷ ss) (sym b))) (enter_of v below done)

module _ (blocks : Blocks) (old : List Slot) (cells : List (Option Value)) (heap : List Object) (new : List Slot) (changed : List (Option Value)) (grown : List Object) where
  pub enter_lacks : one_value old ≡ None → RowsOperation instr.Enter blocks old cells heap progress.Lacks new changed grown
  unfolding RowsOperation RowsIn
  enter_lacks e st s pc i truths knows = stuck_row s.program s.here (with_parts cells heap st) _ (lacks_one old e _)
