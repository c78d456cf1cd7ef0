-- Rows of operations.
use Rattle.std.proofs.Common.{◌≡◌, ◌∙◌, ◌+◌, ℕ, List, [], ◌∷◌, Option, Some, None, refl, sym, ap, subst}
use Rattle.std.specs.Prelude.{drop, codes}
use Rattle.sem_control.specs.control.Turn as T
use Rattle.pt_base.specs.declared.operators.BinOp.{BinOp}
use Rattle.pt_base.specs.declared.operators.CompareOp.{CompareOp}
use Rattle.pt_base.specs.declared.operators.UnOp.{UnOp}
use Rattle.pt_instr.specs.declared.Conversion.{Conversion}
use Rattle.pt_instr.specs.declared.Instr.TheVariants as instr
use Rattle.pt_heap.specs.declared.value.Value.{Value}
use Rattle.pt_heap.specs.declared.object.Object.{Object}
use Rattle.pt_frames.specs.declared.slot.Slot.{Slot}
use Rattle.pt_frames.specs.declared.slot.Slot.TheVariants as slot
use Rattle.sem_code.specs.slots.Instructions.{conversion_of}
use Rattle.pt_content.specs.declared.op.Op.TheVariants as op
use Rattle.pt_call_rows.specs.pt_operators.pt_moves.Operands.{one_value, two_values}
use Rattle.pt_call_rows.proofs.pt_operators.OperatorLemmas.{lacks_one_of, lacks_two_of}
use Rattle.pt_call_rows.proofs.pt_operators.pt_moves.TakeLemmas.{one_on, two_on}
use Rattle.pt_call_rows.proofs.pt_operators.pt_moves.MoveLemmas.{stuck_row}
use Rattle.pt_call_rows.specs.pt_operators.pt_moves.sem_rows.pt_host.Operators.{unary_name}
use Rattle.pt_call_rows.specs.pt_operators.pt_moves.sem_rows.declared.heap_rows.progress.Progress.{Progress}
use Rattle.pt_call_rows.specs.pt_operators.pt_moves.sem_rows.declared.heap_rows.progress.Progress.TheVariants as progress
use Rattle.pt_call_rows.specs.pt_operators.pt_moves.sem_rows.heap_rows.Leads.{giving}
use Rattle.pt_call_rows.specs.pt_operators.pt_moves.sem_rows.heap_rows.RowsIn.{RowsIn}
use Rattle.pt_call_rows.specs.pt_operators.pt_moves.sem_rows.heap_rows.Views.{slots_view}
use Rattle.pt_call_rows.proofs.pt_operators.pt_moves.sem_rows.heap_rows.RowLemmas.{asks_lead}
use Rattle.pt_call_rows.specs.pt_function_rows.pt_code_facts.declared.facts.Blocks.{Blocks}
use Rattle.pt_call_rows.specs.pt_class_rows.Calls.{Calls, Running, with_parts}
use Rattle.pt_call_rows.specs.CallRows.{RowsCall}
use Rattle.pt_call_rows.specs.pt_block_calls.BlockCalls.{RowsOperation}
use Rattle.pt_operation_rows.specs.OperationRows.{AsksSpecial, Gathers}

module _ (blocks : Blocks) (old : List Slot) (cells : List (Option Value)) (heap : List Object) (p : Progress) (new : List Slot)
    (changed : List (Option Value)) (grown : List Object) where
  pub tuple_row : (n : ℕ) → Gathers op.Tuple n blocks old cells heap p new changed grown → RowsOperation (instr.Tuple n) blocks old cells heap p new changed grown
  unfolding Gathers RowsOperation RowsIn
  tuple_row n done st s pc i truths knows = done T.tuple (λ q vs k w. refl) s.program s.code pc i s.here st knows

  pub list_row : (n : ℕ) → Gathers op.List n blocks old cells heap p new changed grown → RowsOperation (instr.List n) blocks old cells heap p new changed grown
  unfolding Gathers RowsOperation RowsIn
  list_row n done st s pc i truths knows = done T.list (λ q vs k w. refl) s.program s.code pc i s.here st knows

  pub set_row : (n : ℕ) → Gathers op.Set n blocks old cells heap p new changed grown → RowsOperation (instr.Set n) blocks old cells heap p new changed grown
  unfolding Gathers RowsOperation RowsIn
  set_row n done st s pc i truths knows = done T.set (λ q vs k w. refl) s.program s.code pc i s.here st knows

  pub dict_row : (n : ℕ) → Gathers op.Dict (n + n) blocks old cells heap p new changed grown → RowsOperation (instr.Dict n) blocks old cells heap p new changed grown
  unfolding Gathers RowsOperation RowsIn
  dict_row n done st s pc i truths knows = done T.dict (λ q vs k w. refl) s.program s.code pc i s.here st knows

  pub join_row : (n : ℕ) → Gathers op.Join n blocks old cells heap p new changed grown → RowsOperation (instr.Join n) blocks old cells heap p new changed grown
  unfolding Gathers RowsOperation RowsIn
  join_row n done st s pc i truths knows = done T.join (λ q vs k w. refl) s.program s.code pc i s.here st knows

  pub slice_row : Gathers op.Slice 3 blocks old cells heap p new changed grown → RowsOperation instr.Slice blocks old cells heap p new changed grown
  unfolding Gathers RowsOperation RowsIn
  slice_row done st s pc i truths knows = done T.slice (λ q vs k w. refl) s.program s.code pc i s.here st knows

  pub spread_row : Gathers op.SpreadOut 1 blocks old cells heap p new changed grown → RowsOperation instr.Spread blocks old cells heap p new changed grown
  unfolding Gathers RowsOperation RowsIn
  spread_row done st s pc i truths knows = done T.spread_out (λ q vs k w. refl) s.program s.code pc i s.here st knows

  pub spread_named_row : Gathers op.SpreadNamed 1 blocks old cells heap p new changed grown → RowsOperation instr.SpreadMap blocks old cells heap p new changed grown
  unfolding Gathers RowsOperation RowsIn
  spread_named_row done st s pc i truths knows = done T.spread_named_out (λ q vs k w. refl) s.program s.code pc i s.here st knows

  pub not_row : Gathers op.Not 1 blocks old cells heap p new changed grown → RowsOperation instr.Not blocks old cells heap p new changed grown
  unfolding Gathers RowsOperation RowsIn
  not_row done st s pc i truths knows = done T.inverted (λ q vs k w. refl) s.program s.code pc i s.here st knows

  pub binary_row : (o : BinOp) → Gathers (op.Binary o) 2 blocks old cells heap p new changed grown → RowsOperation (instr.Binary o) blocks old cells heap p new changed grown
  unfolding Gathers RowsOperation RowsIn
  binary_row o done st s pc i truths knows = done (T.binary o) (λ q vs k w. refl) s.program s.code pc i s.here st knows

  pub in_place_row : (o : BinOp) → Gathers (op.InPlace o) 2 blocks old cells heap p new changed grown → RowsOperation (instr.InPlace o) blocks old cells heap p new changed grown
  unfolding Gathers RowsOperation RowsIn
  in_place_row o done st s pc i truths knows = done (T.in_place o) (λ q vs k w. refl) s.program s.code pc i s.here st knows

  pub compare_row : (o : CompareOp) → Gathers (op.Compare o) 2 blocks old cells heap p new changed grown → RowsOperation (instr.Compare o) blocks old cells heap p new changed grown
  unfolding Gathers RowsOperation RowsIn
  compare_row o done st s pc i truths knows = done (T.compare o) (λ q vs k w. refl) s.program s.code pc i s.here st knows

  pub format_row : (c : Conversion) → Gathers (op.Format (conversion_of c)) 2 blocks old cells heap p new changed grown → RowsOperation (instr.Format c) blocks old cells heap p new changed grown
  unfolding Gathers RowsOperation RowsIn
  format_row c done st s pc i truths knows = done (T.format (conversion_of c)) (λ q vs k w. refl) s.program s.code pc i s.here st knows

-- an instance is asked for the method of an operator, or of an item

module _ (blocks : Blocks) (r : Running) (below : List Slot) (cells : List (Option Value)) (heap : List Object) (p : Progress) (new : List Slot)
    (changed : List (Option Value)) (grown : List Object) where
  unary_of : (o : UnOp) (v : Value) → AsksSpecial (unary_name o) (op.Unary o) v [] (v ∷ []) blocks r below cells heap p new changed grown
      → RowsCall blocks r (instr.Unary o) (slot.Value v ∷ below) cells heap p new changed grown
  unfolding AsksSpecial Calls RowsCall RowsIn
  unary_of o v done st s pc i truths knows =
      done s.program s.code i s.here st knows
      ∙ sym (asks_lead s.program s.code i s.here (with_parts cells heap st) (T.seek (T.operate (T.unary o) (v ∷ []))) (giving s.code i (slots_view below)) (slots_view below) tt)

  item_of : (v w : Value) → AsksSpecial (codes "__getitem__") op.Item v (w ∷ []) (v ∷ w ∷ []) blocks r below cells heap p new changed grown
      → RowsCall blocks r instr.Item (slot.Value w ∷ (slot.Value v ∷ below)) cells heap p new changed grown
  unfolding AsksSpecial Calls RowsCall RowsIn
  item_of v w done st s pc i truths knows =
      done s.program s.code i s.here st knows
      ∙ sym (asks_lead s.program s.code i s.here (with_parts cells heap st) (T.seek (T.operate T.item (v ∷ w ∷ []))) (giving s.code i (slots_view below)) (slots_view below) tt)

-- the same by what was taken, for code

module _ (blocks : Blocks) (r : Running) (old : List Slot) (cells : List (Option Value)) (heap : List Object) (new : List Slot)
    (changed : List (Option Value)) (grown : List Object) where
  pub unary_row : (o : UnOp) (p : Progress) (v : Value) (below : List Slot) → one_value old ≡ Some v → below ≡ drop 1 old
      → AsksSpecial (unary_name o) (op.Unary o) v [] (v ∷ []) blocks r below cells heap p new changed grown
      → RowsCall blocks r (instr.Unary o) old cells heap p new changed grown
  unary_row o p v below e b done =
      subst (λ x. RowsCall blocks r (instr.Unary o) x cells heap p new changed grown) (sym (one_on old v e ∙ ap (λ ss. slot.Value v ∷ ss) (sym b)))
      (unary_of blocks r below cells heap p new changed grown o v done)

  pub unary_lacks : (o : UnOp) → one_value old ≡ None → RowsCall blocks r (instr.Unary o) old cells heap progress.Lacks new changed grown
  unfolding RowsCall RowsIn
  unary_lacks o e st s pc i truths knows = stuck_row s.program s.here (with_parts cells heap st) _ (lacks_one_of old e [] _)

  pub item_row : (p : Progress) (q : Value × Value) (below : List Slot) → two_values old ≡ Some q → below ≡ drop 2 old
      → AsksSpecial (codes "__getitem__") op.Item q.0 (q.1 ∷ []) (q.0 ∷ q.1 ∷ []) blocks r below cells heap p new changed grown
      → RowsCall blocks r instr.Item old cells heap p new changed grown
  item_row p q below e b done =
      subst (λ x. RowsCall blocks r instr.Item x cells heap p new changed grown)
      (sym (two_on old q.0 q.1 e ∙ ap (λ ss. slot.Value q.1 ∷ (slot.Value q.0 ∷ ss)) (sym b)))
      (item_of blocks r below cells heap p new changed grown q.0 q.1 done)

  pub item_lacks : two_values old ≡ None → RowsCall blocks r instr.Item old cells heap progress.Lacks new changed grown
  unfolding RowsCall RowsIn
  item_lacks e st s pc i truths knows = stuck_row s.program s.here (with_parts cells heap st) _ (lacks_two_of old e [] _)
