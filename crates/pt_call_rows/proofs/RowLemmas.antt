-- Rows of calls.
use Rattle.std.proofs.Common.{◌≡◌, ◌∙◌, ◌-◌, ℕ, suc, true, false, List, [], ◌∷◌, length, map, Option, Some, None, sym, ap, arith}
use Rattle.std.specs.Prelude.{drop, if◌then◌else◌}
use Rattle.pt_base.specs.declared.what.What.TheVariants.{Feature}
use Rattle.pt_tree.specs.Syntax.{Name}
use Rattle.sem_control.specs.control.Turn as T
use Rattle.sem_control.specs.control.Turn.{Role, Turn}
use Rattle.pt_instr.specs.declared.Instr.TheVariants as instr
use Rattle.pt_instr.specs.declared.ListNo.{ListNo}
use Rattle.pt_heap.specs.declared.value.Value.{Value}
use Rattle.pt_heap.specs.declared.object.Object.{Object}
use Rattle.pt_bind.specs.declared.arguments.Args.{Args}
use Rattle.pt_frames.specs.declared.slot.Slot.{Slot}
use Rattle.pt_code.specs.View.{Ins}
use Rattle.sem_code.specs.slots.CodeObject.{CodeObject}
use Rattle.sem_code.specs.slots.Instructions.{all_positional, last_named, role_of}
use Rattle.sem_code.specs.slots.Steps.{gives}
use Rattle.sem_code.specs.slots.Pops as P
use Rattle.sem_run.specs.run.Host.{Here, leave}
use Rattle.pt_block_calls.specs.pt_operators.pt_moves.sem_rows.pt_host.World.{Stores, Program}
use Rattle.pt_block_calls.specs.pt_operators.pt_moves.sem_rows.pt_host.Calls.{are_arguments, arguments, call_value}
use Rattle.pt_block_calls.specs.pt_operators.pt_moves.sem_rows.declared.heap_rows.progress.Progress.{Progress}
use Rattle.pt_block_calls.specs.pt_operators.pt_moves.sem_rows.declared.heap_rows.progress.Progress.TheVariants as progress
use Rattle.pt_block_calls.specs.pt_operators.pt_moves.sem_rows.heap_rows.Laws.{reached}
use Rattle.pt_block_calls.specs.pt_operators.pt_moves.sem_rows.heap_rows.Leads.{by_tree, giving}
use Rattle.pt_block_calls.specs.pt_operators.pt_moves.sem_rows.heap_rows.RowsIn.{RowsIn}
use Rattle.pt_block_calls.specs.pt_operators.pt_moves.sem_rows.heap_rows.Views.{slots_view}
use Rattle.pt_block_calls.proofs.pt_operators.pt_moves.sem_rows.heap_rows.RowLemmas.{asks_lead}
use Rattle.pt_block_calls.specs.pt_function_rows.pt_code_facts.declared.facts.Blocks.{Blocks}
use Rattle.pt_block_calls.specs.pt_operators.pt_moves.Operands.{one_value}
use Rattle.pt_block_calls.proofs.pt_operators.pt_moves.MoveLemmas.{stuck_row}
use Rattle.pt_block_calls.specs.pt_function_rows.Operands.{many_values}
use Rattle.pt_block_calls.specs.pt_function_rows.Arguments.{named_last}
use Rattle.pt_block_calls.specs.pt_class_rows.Calls.{Calls, Running, with_parts}
use Rattle.pt_call_rows.specs.CallRows.{CallsValue, RowsCall, RowsNamedCall}
use Rattle.pt_block_calls.proofs.pt_function_rows.ArgumentLemmas.{all_are_given, last_are_given, all_plain_is, named_last_is}
use Rattle.pt_block_calls.proofs.pt_function_rows.TakeLemmas.{one_more, value_below, none_below, still_none, length_taken, values_taken, values_missing}

-- a call whose arguments aren't spread leads where the call of the value does
module _ (program : Program) (code : CodeObject Value) (i : Ins) (h : Here Value) (st : Stores) (below : List Slot) (rs : List Role) (f : Value)
    (vs : List Value) (args : Args) where
  call_leads : are_arguments st.world.heap rs vs ≡ true → arguments st.world.heap rs vs ≡ args
      → reached program code i h st (gives code i (T.operate (T.call rs) (f ∷ vs)) (slots_view below))
      ≡ by_tree code i (giving code i (slots_view below)) (slots_view below) (call_value program f args h st)
  call_leads none are =
      asks_lead program code i h st (T.seek (T.operate (T.call rs) (f ∷ vs))) (giving code i (slots_view below)) (slots_view below) tt
      ∙ (ap (λ b. by_tree code i (giving code i (slots_view below)) (slots_view below)
      (if b then call_value program f (arguments st.world.heap rs vs) h st else leave Feature)) none
      ∙ ap (λ a. by_tree code i (giving code i (slots_view below)) (slots_view below) (call_value program f a h st)) are)

module _ (n : ℕ) (old : List Slot) (vs : List Value) (f : Value) (e : many_values n old ≡ Some vs) (g : one_value (drop n old) ≡ Some f) where
  turned : (code : CodeObject Value) (i : Ins) (rs : List Role)
      → P.values (suc n) [] (slots_view old) (λ ws below. gives code i (T.operate (T.call rs) ws) below)
      ≡ gives code i (T.operate (T.call rs) (f ∷ vs)) (slots_view (drop 1 (drop n old)))
  turned code i rs =
      values_taken (suc n) [] old (λ ws below. gives code i (T.operate (T.call rs) ws) below) (f ∷ vs) (value_below n [] old vs f e g)
      ∙ ap (λ ss. gives code i (T.operate (T.call rs) (f ∷ vs)) (slots_view ss)) (sym (one_more n old))

  count : length vs ≡ n
  count = omega (arith, length_taken n [] old vs e)

module _ (blocks : Blocks) (r : Running) (n : ℕ) (old : List Slot) (cells : List (Option Value)) (heap : List Object) (new : List Slot) (changed : List (Option Value))
    (grown : List Object) where
  pub call_row : (p : Progress) (vs : List Value) (f : Value) (below : List Slot) (args : Args) → many_values n old ≡ Some vs → one_value (drop n old)
      ≡ Some f → below ≡ drop 1 (drop n old)
      → args ≡ record { plain = vs; named = [] } → CallsValue blocks r f args below cells heap p new changed grown
      → RowsCall blocks r (instr.Call n) old cells heap p new changed grown
  unfolding RowsCall RowsIn CallsValue Calls
  call_row p vs f below args e g b a done st s pc i truths knows =
      done s.program s.code i s.here st knows
      ∙ (sym (call_leads s.program s.code i s.here (with_parts cells heap st) below (all_positional n) f vs args (all_are_given heap n vs)
      (ap (λ k. arguments heap (all_positional k) vs) (sym (count n old vs f e g)) ∙ (all_plain_is heap vs ∙ sym a)))
      ∙ (ap (λ ss. reached s.program s.code i s.here (with_parts cells heap st)
      (gives s.code i (T.operate (T.call (all_positional n)) (f ∷ vs)) (slots_view ss))) b
      ∙ ap (λ t. reached s.program s.code i s.here (with_parts cells heap st) t) (sym (turned n old vs f e g s.code i (all_positional n)))))

  pub call_lacks_arguments : many_values n old ≡ None → RowsCall blocks r (instr.Call n) old cells heap progress.Lacks new changed grown
  unfolding RowsCall RowsIn
  call_lacks_arguments e st s pc i truths knows = stuck_row s.program s.here _ _ (values_missing (suc n) [] old _ (still_none n [] old e))

  pub call_lacks_callee : (vs : List Value) → many_values n old ≡ Some vs → one_value (drop n old) ≡ None
      → RowsCall blocks r (instr.Call n) old cells heap progress.Lacks new changed grown
  unfolding RowsCall RowsIn
  call_lacks_callee vs e g st s pc i truths knows = stuck_row s.program s.here _ _ (values_missing (suc n) [] old _ (none_below n [] old g))

  module _ (xs : List Name) (l : ListNo) where
    pub named_call_row : (p : Progress) (vs : List Value) (f : Value) (below : List Slot) (args : Args) → many_values n old ≡ Some vs
        → one_value (drop n old) ≡ Some f → below ≡ drop 1 (drop n old)
        → args ≡ named_last xs vs → CallsValue blocks r f args below cells heap p new changed grown
        → RowsNamedCall xs l.0 blocks r (instr.CallKw n l) old cells heap p new changed grown
    unfolding RowsNamedCall RowsIn CallsValue Calls
    named_call_row p vs f below args e g b a done st s pc i truths knows =
        done s.program s.code i s.here st knows.0
        ∙ (sym (call_leads s.program s.code i s.here (with_parts cells heap st) below (last_named n (s.code.pool.texts l.0)) f vs args
        (last_are_given heap (n - length (s.code.pool.texts l.0)) (s.code.pool.texts l.0) vs)
        (ap (λ k. arguments heap (last_named k (s.code.pool.texts l.0)) vs) (sym (count n old vs f e g))
        ∙ (ap (λ ys. arguments heap (last_named (length vs) ys) vs) knows.1 ∙ (named_last_is heap xs vs ∙ sym a))))
        ∙ (ap (λ ss. reached s.program s.code i s.here (with_parts cells heap st)
        (gives s.code i (T.operate (T.call (last_named n (s.code.pool.texts l.0))) (f ∷ vs)) (slots_view ss))) b
        ∙ ap (λ t. reached s.program s.code i s.here (with_parts cells heap st) t)
        (sym (turned n old vs f e g s.code i (last_named n (s.code.pool.texts l.0))))))

    pub named_call_lacks_arguments : many_values n old ≡ None → RowsNamedCall xs l.0 blocks r (instr.CallKw n l) old cells heap progress.Lacks new changed grown
    unfolding RowsNamedCall RowsIn
    named_call_lacks_arguments e st s pc i truths knows = stuck_row s.program s.here _ _ (values_missing (suc n) [] old _ (still_none n [] old e))

    pub named_call_lacks_callee : (vs : List Value) → many_values n old ≡ Some vs → one_value (drop n old) ≡ None
        → RowsNamedCall xs l.0 blocks r (instr.CallKw n l) old cells heap progress.Lacks new changed grown
    unfolding RowsNamedCall RowsIn
    named_call_lacks_callee vs e g st s pc i truths knows = stuck_row s.program s.here _ _ (values_missing (suc n) [] old _ (none_below n [] old g))

    -- each argument with its role
    module _ (vs : List Value) (f : Value) (below : List Slot) (args : Args) (e : many_values n old ≡ Some vs) (g : one_value (drop n old) ≡ Some f)
        (b : below ≡ drop 1 (drop n old)) where
      pub role_call_row : (p : Progress) → are_arguments heap (map role_of xs) vs ≡ true → args ≡ arguments heap (map role_of xs) vs
          → CallsValue blocks r f args below cells heap p new changed grown
          → RowsNamedCall xs l.0 blocks r (instr.CallSpread n l) old cells heap p new changed grown
      unfolding RowsNamedCall RowsIn CallsValue Calls
      role_call_row p are a done st s pc i truths knows =
          done s.program s.code i s.here st knows.0
          ∙ (sym (call_leads s.program s.code i s.here (with_parts cells heap st) below (map role_of (s.code.pool.texts l.0)) f vs args
          (ap (λ ys. are_arguments heap (map role_of ys) vs) knows.1 ∙ are) (ap (λ ys. arguments heap (map role_of ys) vs) knows.1 ∙ sym a))
          ∙ (ap (λ ss. reached s.program s.code i s.here (with_parts cells heap st)
          (gives s.code i (T.operate (T.call (map role_of (s.code.pool.texts l.0))) (f ∷ vs)) (slots_view ss))) b
          ∙ ap (λ t. reached s.program s.code i s.here (with_parts cells heap st) t)
          (sym (turned n old vs f e g s.code i (map role_of (s.code.pool.texts l.0))))))

    pub role_call_misspread : (vs : List Value) (f : Value) → many_values n old ≡ Some vs → one_value (drop n old) ≡ Some f
        → are_arguments heap (map role_of xs) vs ≡ false
        → RowsNamedCall xs l.0 blocks r (instr.CallSpread n l) old cells heap (progress.Outside Feature) new changed grown
    unfolding RowsNamedCall RowsIn
    role_call_misspread vs f e g are st s pc i truths knows =
        sym (ap (λ t. reached s.program s.code i s.here (with_parts cells heap st) t) (turned n old vs f e g s.code i (map role_of (s.code.pool.texts l.0)))
        ∙ (asks_lead s.program s.code i s.here (with_parts cells heap st) (T.seek (T.operate (T.call (map role_of (s.code.pool.texts l.0))) (f ∷ vs)))
        (giving s.code i (slots_view (drop 1 (drop n old)))) (slots_view (drop 1 (drop n old))) tt
        ∙ ap (λ c. by_tree s.code i (giving s.code i (slots_view (drop 1 (drop n old)))) (slots_view (drop 1 (drop n old)))
        (if c then call_value s.program f (arguments heap (map role_of (s.code.pool.texts l.0)) vs) s.here (with_parts cells heap st) else leave Feature))
        (ap (λ ys. are_arguments heap (map role_of ys) vs) knows.1 ∙ are)))

    pub role_call_lacks_arguments : many_values n old ≡ None
        → RowsNamedCall xs l.0 blocks r (instr.CallSpread n l) old cells heap progress.Lacks new changed grown
    unfolding RowsNamedCall RowsIn
    role_call_lacks_arguments e st s pc i truths knows = stuck_row s.program s.here _ _ (values_missing (suc n) [] old _ (still_none n [] old e))

    pub role_call_lacks_callee : (vs : List Value) → many_values n old ≡ Some vs → one_value (drop n old) ≡ None
        → RowsNamedCall xs l.0 blocks r (instr.CallSpread n l) old cells heap progress.Lacks new changed grown
    unfolding RowsNamedCall RowsIn
    role_call_lacks_callee vs e g st s pc i truths knows = stuck_row s.program s.here _ _ (values_missing (suc n) [] old _ (none_below n [] old g))
