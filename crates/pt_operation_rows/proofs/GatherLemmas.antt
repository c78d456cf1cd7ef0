-- Rows of operations on so many values.
use Rattle.std.proofs.Common.{◌≡◌, ◌∙◌, ℕ, List, [], Option, Some, None, sym, ap}
use Rattle.std.specs.Prelude.{drop}
use Rattle.sem_control.specs.control.Turn as T
use Rattle.pt_heap.specs.declared.value.Value.{Value}
use Rattle.pt_heap.specs.declared.object.Object.{Object}
use Rattle.pt_frames.specs.declared.slot.Slot.{Slot}
use Rattle.sem_code.specs.slots.Steps.{gives}
use Rattle.pt_content.specs.declared.op.Op.{Op}
use Rattle.pt_call_rows.specs.pt_operators.pt_moves.sem_rows.pt_host.Trees.{Tree}
use Rattle.pt_call_rows.specs.pt_operators.pt_moves.sem_rows.declared.heap_rows.progress.Progress.{Progress}
use Rattle.pt_call_rows.specs.pt_operators.pt_moves.sem_rows.declared.heap_rows.progress.Progress.TheVariants as progress
use Rattle.pt_call_rows.specs.pt_operators.pt_moves.sem_rows.heap_rows.Laws.{reached}
use Rattle.pt_call_rows.specs.pt_operators.pt_moves.sem_rows.heap_rows.Leads.{by_tree, giving}
use Rattle.pt_call_rows.specs.pt_operators.pt_moves.sem_rows.heap_rows.Views.{slots_view}
use Rattle.pt_call_rows.proofs.pt_operators.pt_moves.sem_rows.heap_rows.RowLemmas.{asks_lead}
use Rattle.pt_call_rows.proofs.pt_operators.pt_moves.MoveLemmas.{stuck_row}
use Rattle.pt_call_rows.specs.pt_function_rows.pt_code_facts.declared.facts.Blocks.{Blocks}
use Rattle.pt_call_rows.specs.pt_function_rows.Operands.{many_values}
use Rattle.pt_call_rows.proofs.pt_function_rows.TakeLemmas.{values_taken, values_missing}
use Rattle.pt_call_rows.specs.pt_class_rows.Calls.{Calls, with_parts}
use Rattle.pt_call_rows.specs.pt_block_calls.BlockCalls.{OperatesOrAsks}
use Rattle.pt_operation_rows.specs.OperationRows.{Gathers}

module _ (o : Op) (n : ℕ) (blocks : Blocks) (old : List Slot) (cells : List (Option Value)) (heap : List Object) (new : List Slot)
    (changed : List (Option Value)) (grown : List Object) where
  pub gathered : (p : Progress) (vs : List Value) (below : List Slot) → many_values n old ≡ Some vs → below ≡ drop n old
      → OperatesOrAsks o vs blocks below cells heap p new changed grown → Gathers o n blocks old cells heap p new changed grown
  unfolding Gathers OperatesOrAsks Calls
  gathered p vs below e b done f is program code pc i h st knows =
      done program code i h st knows
      ∙ (ap (λ (t : Tree Value). by_tree code i (giving code i (slots_view below)) (slots_view below) t) (sym (is program vs h (with_parts cells heap st)))
      ∙ (sym (asks_lead program code i h (with_parts cells heap st) (T.seek (T.operate f vs)) (giving code i (slots_view below)) (slots_view below) tt)
      ∙ (ap (λ ss. reached program code i h (with_parts cells heap st) (gives code i (T.operate f vs) (slots_view ss))) b
      ∙ ap (λ t. reached program code i h (with_parts cells heap st) t)
      (sym (values_taken n [] old (λ ws under. gives code i (T.operate f ws) under) vs e)))))

  pub gathers_less : many_values n old ≡ None → Gathers o n blocks old cells heap progress.Lacks new changed grown
  unfolding Gathers
  gathers_less e f is program code pc i h st knows = stuck_row program h (with_parts cells heap st) _ (values_missing n [] old _ e)
