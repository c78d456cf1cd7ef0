-- Rows of tests that decide where code goes on.
use Rattle.std.proofs.Common.{◌≡◌, ◌∙◌, ℕ, [], ◌∷◌, List, Bool, true, false, Option, Some, None, Result, Ok, Err, refl, sym, ap, subst}
use Rattle.std.specs.Prelude.{drop}
use Rattle.pt_base.specs.declared.numbers.Pc.{Pc}
use Rattle.pt_base.specs.declared.what.What.TheVariants.{Feature, Helper}
use Rattle.pt_instr.specs.declared.Instr.TheVariants as instr
use Rattle.pt_heap.specs.declared.value.Value.{Value}
use Rattle.pt_heap.specs.declared.value.Value.TheVariants as value
use Rattle.pt_heap.specs.declared.object.Object.{Object}
use Rattle.pt_frames.specs.declared.slot.Slot.{Slot}
use Rattle.pt_frames.specs.declared.slot.Slot.TheVariants as slot
use Rattle.pt_code.specs.View.{Ins}
use Rattle.sem_code.specs.slots.Slots.{State}
use Rattle.sem_code.specs.slots.CodeObject.{CodeObject}
use Rattle.sem_code.specs.slots.Steps.{branches, decided, dropped, kept}
use Rattle.sem_run.specs.run.Host.{Here}
use Rattle.sem_run.specs.transitions.Successors.{to}
use Rattle.pt_content.specs.declared.op.Op.TheVariants.{Truth}
use Rattle.pt_content.specs.declared.operand.Operand.{Operand}
use Rattle.pt_content.specs.declared.operand.Operand.TheVariants as operand
use Rattle.pt_content.specs.declared.answer.PrimAns.{PrimAns}
use Rattle.pt_content.specs.declared.answer.PrimAns.TheVariants as prim
use Rattle.pt_content.specs.Operands.{operand_of}
use Rattle.pt_call_rows.specs.pt_operators.pt_prims.pt_methods.pt_comparisons.Truths.{truth_by}
use Rattle.pt_call_rows.specs.pt_operators.pt_prims.Operations.{placed, prim_answer, prim_heap}
use Rattle.pt_call_rows.specs.pt_operators.pt_moves.Operands.{one_value}
use Rattle.pt_call_rows.proofs.pt_operators.pt_moves.BranchLemmas.{branch_leads, known_leads}
use Rattle.pt_call_rows.proofs.pt_operators.pt_moves.MoveLemmas.{lacks_one, stuck_row}
use Rattle.pt_call_rows.proofs.pt_operators.pt_moves.TakeLemmas.{one_on}
use Rattle.pt_call_rows.specs.pt_operators.pt_moves.sem_rows.pt_host.Answers.{branch}
use Rattle.pt_call_rows.specs.pt_operators.pt_moves.sem_rows.pt_host.Calls.{asked_in_place, operated}
use Rattle.pt_call_rows.specs.pt_operators.pt_moves.sem_rows.pt_host.Errors.{error}
use Rattle.pt_call_rows.specs.pt_operators.pt_moves.sem_rows.pt_host.Primitives.{a_truth, arguments_of, of_prim}
use Rattle.pt_call_rows.specs.pt_operators.pt_moves.sem_rows.pt_host.Trees.{Tree}
use Rattle.pt_call_rows.specs.pt_operators.pt_moves.sem_rows.pt_host.World.{Program, Stores, allot}
use Rattle.pt_call_rows.specs.pt_operators.pt_moves.sem_rows.declared.heap_rows.progress.Progress.{Progress}
use Rattle.pt_call_rows.specs.pt_operators.pt_moves.sem_rows.declared.heap_rows.progress.Progress.TheVariants as progress
use Rattle.pt_call_rows.specs.pt_operators.pt_moves.sem_rows.heap_rows.Laws.{reached}
use Rattle.pt_call_rows.specs.pt_operators.pt_moves.sem_rows.heap_rows.Leads.{HasHeapTruths, by_tree}
use Rattle.pt_call_rows.specs.pt_operators.pt_moves.sem_rows.heap_rows.RowsIn.{RowsIn}
use Rattle.pt_call_rows.specs.pt_operators.pt_moves.sem_rows.heap_rows.Told.{branched, told}
use Rattle.pt_call_rows.specs.pt_operators.pt_moves.sem_rows.heap_rows.Views.{slots_view}
use Rattle.pt_call_rows.proofs.pt_operators.pt_moves.sem_rows.heap_rows.RowLemmas.{raises_alike}
use Rattle.pt_call_rows.specs.pt_function_rows.pt_code_facts.declared.facts.Blocks.{Blocks}
use Rattle.pt_call_rows.specs.pt_class_rows.Calls.{with_parts}
use Rattle.pt_call_rows.specs.pt_block_calls.declared.blocks.Given.TheVariants as gives
use Rattle.pt_call_rows.specs.pt_block_calls.BlockCalls.{AsksFor, AsksWith, RowsOperation}
use Rattle.pt_call_rows.proofs.pt_block_calls.AskLemmas.{alone_is}
use Rattle.pt_operation_rows.specs.Branches.{Branches, gone_by, kept_by, truth_in}

-- the test of a value prints nothing
module _ (heap : List Object) (vs : List Value) where
  silent : (v : Value) (k : Operand) (t : List ℕ) → placed (truth_by heap v k) vs heap ≡ prim.Print t → ⊥
  silent value.None k t e = absurd (cc)
  silent (value.Bool b) (operand.Number y) t e = absurd (cc)
  silent (value.Bool b) operand.Text t e = absurd (cc)
  silent (value.Bool b) operand.Instance t e = absurd (cc)
  silent (value.Bool b) operand.Compound t e = absurd (cc)
  silent (value.Bool b) operand.Plain t e = absurd (cc)
  silent (value.Int z) (operand.Number y) t e = absurd (cc)
  silent (value.Int z) operand.Text t e = absurd (cc)
  silent (value.Int z) operand.Instance t e = absurd (cc)
  silent (value.Int z) operand.Compound t e = absurd (cc)
  silent (value.Int z) operand.Plain t e = absurd (cc)
  silent value.Ellipsis (operand.Number y) t e = absurd (cc)
  silent value.Ellipsis operand.Text t e = absurd (cc)
  silent value.Ellipsis operand.Instance t e = absurd (cc)
  silent value.Ellipsis operand.Compound t e = absurd (cc)
  silent value.Ellipsis operand.Plain t e = absurd (cc)
  silent value.NotImplemented (operand.Number y) t e = absurd (cc)
  silent value.NotImplemented operand.Text t e = absurd (cc)
  silent value.NotImplemented operand.Instance t e = absurd (cc)
  silent value.NotImplemented operand.Compound t e = absurd (cc)
  silent value.NotImplemented operand.Plain t e = absurd (cc)
  silent (value.Obj id) (operand.Number y) t e = absurd (cc)
  silent (value.Obj id) operand.Text t e = absurd (cc)
  silent (value.Obj id) operand.Instance t e = absurd (cc)
  silent (value.Obj id) operand.Compound t e = absurd (cc)
  silent (value.Obj id) operand.Plain t e = absurd (cc)

-- where code goes on by a truth that is known

module _ (target : Pc) (program : Program) (code : CodeObject Value) (i : Ins) (h : Here Value) (slots : List Slot) (st : Stores) where
  gone_told : (wanted : Bool) (kept : Option Value) (b : Bool)
      → told program code i h (gone_by wanted target b) (slots_view (kept_by wanted kept b slots)) st ≡ to (branched program code i wanted target kept (slots_view slots) b) st
  gone_told true (Some v) true = refl
  gone_told true None true = refl
  gone_told true k false = refl
  gone_told false k true = refl
  gone_told false (Some v) false = refl
  gone_told false None false = refl

-- by what the test of a value answers

module _ (wanted : Bool) (target : Pc) (kept : Option Value) (program : Program) (code : CodeObject Value) (i : Ins) (h : Here Value) (slots : List Slot)
    (st : Stores) where
  truth_told : (a : PrimAns) (b : Bool) → truth_in a ≡ Ok b
      → told program code i h (gone_by wanted target b) (slots_view (kept_by wanted kept b slots)) st
      ≡ by_tree code i (branched program code i wanted target kept (slots_view slots)) (slots_view slots) (of_prim a_truth a h st)
  truth_told (prim.Value value.None) b e = absurd (cc)
  truth_told (prim.Value (value.Bool c)) b e =
      gone_told target program code i h slots st wanted kept b
      ∙ ap (λ x. to (branched program code i wanted target kept (slots_view slots) x) st) (let same : b ≡ c = cc in same)
  truth_told (prim.Value (value.Int z)) b e = absurd (cc)
  truth_told (prim.Value value.Ellipsis) b e = absurd (cc)
  truth_told (prim.Value value.NotImplemented) b e = absurd (cc)
  truth_told (prim.Value (value.Obj id)) b e = absurd (cc)
  truth_told (prim.Values vs) b e = absurd (cc)
  truth_told prim.End b e = absurd (cc)
  truth_told (prim.Raise class arg) b e = absurd (cc)
  truth_told (prim.Help helper vs inverted) b e = absurd (cc)
  truth_told (prim.Print t) b e = absurd (cc)
  truth_told (prim.Outside what) b e = absurd (cc)

  abbrev Leads : PrimAns → Progress → Type 0
  Leads a q =
      told program code i h q (slots_view slots) st
      ≡ by_tree code i (branched program code i wanted target kept (slots_view slots)) (slots_view slots) (of_prim a_truth a h st)

  instead_is : (a : PrimAns) (q q1 : Progress) → truth_in a ≡ Err q → truth_in a ≡ Err q1 → Leads a q1 → Leads a q
  instead_is a q q1 e f done = ap (λ x. told program code i h x (slots_view slots) st) (let same : q ≡ q1 = cc in same) ∙ done

  instead_told : (a : PrimAns) (q : Progress) → truth_in a ≡ Err q → ((t : List ℕ) → a ≡ prim.Print t → ⊥) → Leads a q
  instead_told (prim.Value value.None) q e n = instead_is (prim.Value value.None) q (progress.Outside Feature) e refl refl
  instead_told (prim.Value (value.Bool c)) q e n = absurd (cc)
  instead_told (prim.Value (value.Int z)) q e n = instead_is (prim.Value (value.Int z)) q (progress.Outside Feature) e refl refl
  instead_told (prim.Value value.Ellipsis) q e n = instead_is (prim.Value value.Ellipsis) q (progress.Outside Feature) e refl refl
  instead_told (prim.Value value.NotImplemented) q e n = instead_is (prim.Value value.NotImplemented) q (progress.Outside Feature) e refl refl
  instead_told (prim.Value (value.Obj id)) q e n = instead_is (prim.Value (value.Obj id)) q (progress.Outside Feature) e refl refl
  instead_told (prim.Values vs) q e n = instead_is (prim.Values vs) q (progress.Outside Feature) e refl refl
  instead_told prim.End q e n = instead_is prim.End q (progress.Outside Feature) e refl refl
  instead_told (prim.Raise class arg) q e n = instead_is (prim.Raise class arg) q (progress.Fails class arg) e refl
      (raises_alike code i (branched program code i wanted target kept (slots_view slots)) (slots_view slots)
      (allot (error class (arguments_of arg) None h.active) st.world.heap) st)
  instead_told (prim.Help helper vs inverted) q e n = instead_is (prim.Help helper vs inverted) q (progress.Outside Helper) e refl refl
  instead_told (prim.Print t) q e n = absurd (n t refl)
  instead_told (prim.Outside what) q e n = instead_is (prim.Outside what) q (progress.Outside what) e refl refl

module _ (v : Value) (wanted : Bool) (target : Pc) (kept : Option Value) (blocks : Blocks) (old : List Slot) (cells : List (Option Value)) (heap : List Object) where
  pub known_gone : (b : Bool) (p : Progress) (new : List Slot) → v ≡ value.Bool b → p ≡ gone_by wanted target b → new ≡ kept_by wanted kept b old
      → Branches v wanted target kept blocks old cells heap p new cells heap
  unfolding Branches
  known_gone b p new is goes stands program code i h st knows =
      ap (λ x. told program code i h x (slots_view new) (with_parts cells heap st)) goes
      ∙ (ap (λ ss. told program code i h (gone_by wanted target b) (slots_view ss) (with_parts cells heap st)) stands
      ∙ (gone_told target program code i h old (with_parts cells heap st) wanted kept b
      ∙ (known_leads program code i h (slots_view old) (with_parts cells heap st) (branched program code i wanted target kept (slots_view old)) b
      ∙ ap (λ x. by_tree code i (branched program code i wanted target kept (slots_view old)) (slots_view old) (branch program x h (with_parts cells heap st))) (sym is))))

  module _ (changed : List (Option Value)) (grown : List Object) where
    abbrev Asked : Result PrimAns Progress → Type 0
    Asked r = AsksFor Truth (v ∷ []) (gives.Truth wanted target kept) blocks cells heap r changed grown

    pub answered_gone : (r : Result PrimAns Progress) (a : PrimAns) (b : Bool) (p : Progress) (new : List Slot) → Asked r → r ≡ Ok a → truth_in a ≡ Ok b
        → p ≡ gone_by wanted target b → new ≡ kept_by wanted kept b old → Branches v wanted target kept blocks old cells heap p new changed grown
    unfolding Branches
    answered_gone r a b p new asks so is goes stands program code i h st knows =
        ap (λ x. told program code i h x (slots_view new) (with_parts changed grown st)) goes
        ∙ (ap (λ ss. told program code i h (gone_by wanted target b) (slots_view ss) (with_parts changed grown st)) stands
        ∙ (truth_told wanted target kept program code i h old (with_parts changed grown st) a b is
        ∙ ap (λ (t : Tree Bool). by_tree code i (branched program code i wanted target kept (slots_view old)) (slots_view old) t)
        (alone_is Truth (v ∷ []) (gives.Truth wanted target kept) blocks cells heap changed grown a_truth a program h st (subst Asked so asks))))

    prints_nothing : (a : PrimAns) → Asked (Ok a) → (t : List ℕ) → a ≡ prim.Print t → ⊥
    unfolding AsksFor
    prints_nothing a asks t e = silent heap (v ∷ []) v (operand_of heap v) t (sym asks.0.0 ∙ e)

    pub instead_gone : (r : Result PrimAns Progress) (a : PrimAns) (p : Progress) → Asked r → r ≡ Ok a → truth_in a ≡ Err p
        → Branches v wanted target kept blocks old cells heap p old changed grown
    unfolding Branches
    instead_gone r a p asks so is program code i h st knows =
        instead_told wanted target kept program code i h old (with_parts changed grown st) a p is (prints_nothing a (subst Asked so asks))
        ∙ ap (λ (t : Tree Bool). by_tree code i (branched program code i wanted target kept (slots_view old)) (slots_view old) t)
        (alone_is Truth (v ∷ []) (gives.Truth wanted target kept) blocks cells heap changed grown a_truth a program h st (subst Asked so asks))

    help_gone : (p : Progress) → Asked (Err p) → Branches v wanted target kept blocks old cells heap p old changed grown
    unfolding AsksFor AsksWith Branches operated
    help_gone p (x, (us, (b, (is, done)))) program code i h st knows =
        done old program code i h st knows
        ∙ ap (λ k. by_tree code i (branched program code i wanted target kept (slots_view old)) (slots_view old)
        (asked_in_place program a_truth Truth k h (with_parts cells (prim_heap Truth (v ∷ []) heap) st))) (sym is)

    pub asked_gone : (r : Result PrimAns Progress) (p : Progress) → Asked r → r ≡ Err p → Branches v wanted target kept blocks old cells heap p old changed grown
    asked_gone r p asks so = help_gone p (subst Asked so asks)

-- rows

module _ (place : Pc) (v : Value) (blocks : Blocks) (below : List Slot) (cells : List (Option Value)) (heap : List Object) (p : Progress) (new : List Slot)
    (changed : List (Option Value)) (grown : List Object) where
  jump_if_of : Branches v true place None blocks below cells heap p new changed grown
      → RowsOperation (instr.JumpIf place) blocks (slot.Value v ∷ below) cells heap p new changed grown
  unfolding Branches RowsOperation RowsIn
  jump_if_of done st s pc i truths knows = by s.program s.code i s.here truths (with_parts cells heap st) (done s.program s.code i s.here st knows)
    where
      by : (program : Program) (code : CodeObject Value) (i : Ins) (h : Here Value) → HasHeapTruths code → (st1 : Stores)
          → told program code i h p (slots_view new) (with_parts changed grown st)
          ≡ by_tree code i (branched program code i true place None (slots_view below)) (slots_view below) (branch program v h st1)
          → told program code i h p (slots_view new) (with_parts changed grown st)
          ≡ reached program code i h st1 (branches code i (code.is_truth v) (dropped place.0) (dropped i.next) v (slots_view below))
      by program code i h truths st1 e =
          e ∙ (ap (λ (f : Bool → State Value). by_tree code i f (slots_view below) (branch program v h st1)) (λ j b. at b j)
          ∙ sym (branch_leads program code i h (slots_view below) st1 truths (dropped place.0) (dropped i.next) v))
        where
          at : (b : Bool) → branched program code i true place None (slots_view below) b ≡ decided code b (dropped place.0) (dropped i.next) v (slots_view below)
          at true = refl
          at false = refl

  jump_unless_of : Branches v false place None blocks below cells heap p new changed grown
      → RowsOperation (instr.JumpUnless place) blocks (slot.Value v ∷ below) cells heap p new changed grown
  unfolding Branches RowsOperation RowsIn
  jump_unless_of done st s pc i truths knows = by s.program s.code i s.here truths (with_parts cells heap st) (done s.program s.code i s.here st knows)
    where
      by : (program : Program) (code : CodeObject Value) (i : Ins) (h : Here Value) → HasHeapTruths code → (st1 : Stores)
          → told program code i h p (slots_view new) (with_parts changed grown st)
          ≡ by_tree code i (branched program code i false place None (slots_view below)) (slots_view below) (branch program v h st1)
          → told program code i h p (slots_view new) (with_parts changed grown st)
          ≡ reached program code i h st1 (branches code i (code.is_truth v) (dropped i.next) (dropped place.0) v (slots_view below))
      by program code i h truths st1 e =
          e ∙ (ap (λ (f : Bool → State Value). by_tree code i f (slots_view below) (branch program v h st1)) (λ j b. at b j)
          ∙ sym (branch_leads program code i h (slots_view below) st1 truths (dropped i.next) (dropped place.0) v))
        where
          at : (b : Bool) → branched program code i false place None (slots_view below) b ≡ decided code b (dropped i.next) (dropped place.0) v (slots_view below)
          at true = refl
          at false = refl

  jump_if_keep_of : Branches v true place (Some v) blocks below cells heap p new changed grown
      → RowsOperation (instr.JumpIfKeep place) blocks (slot.Value v ∷ below) cells heap p new changed grown
  unfolding Branches RowsOperation RowsIn
  jump_if_keep_of done st s pc i truths knows = by s.program s.code i s.here truths (with_parts cells heap st) (done s.program s.code i s.here st knows)
    where
      by : (program : Program) (code : CodeObject Value) (i : Ins) (h : Here Value) → HasHeapTruths code → (st1 : Stores)
          → told program code i h p (slots_view new) (with_parts changed grown st)
          ≡ by_tree code i (branched program code i true place (Some v) (slots_view below)) (slots_view below) (branch program v h st1)
          → told program code i h p (slots_view new) (with_parts changed grown st)
          ≡ reached program code i h st1 (branches code i (code.is_truth v) (kept place.0) (dropped i.next) v (slots_view below))
      by program code i h truths st1 e =
          e ∙ (ap (λ (f : Bool → State Value). by_tree code i f (slots_view below) (branch program v h st1)) (λ j b. at b j)
          ∙ sym (branch_leads program code i h (slots_view below) st1 truths (kept place.0) (dropped i.next) v))
        where
          at : (b : Bool) → branched program code i true place (Some v) (slots_view below) b ≡ decided code b (kept place.0) (dropped i.next) v (slots_view below)
          at true = refl
          at false = refl

  jump_unless_keep_of : Branches v false place (Some v) blocks below cells heap p new changed grown
      → RowsOperation (instr.JumpUnlessKeep place) blocks (slot.Value v ∷ below) cells heap p new changed grown
  unfolding Branches RowsOperation RowsIn
  jump_unless_keep_of done st s pc i truths knows = by s.program s.code i s.here truths (with_parts cells heap st) (done s.program s.code i s.here st knows)
    where
      by : (program : Program) (code : CodeObject Value) (i : Ins) (h : Here Value) → HasHeapTruths code → (st1 : Stores)
          → told program code i h p (slots_view new) (with_parts changed grown st)
          ≡ by_tree code i (branched program code i false place (Some v) (slots_view below)) (slots_view below) (branch program v h st1)
          → told program code i h p (slots_view new) (with_parts changed grown st)
          ≡ reached program code i h st1 (branches code i (code.is_truth v) (dropped i.next) (kept place.0) v (slots_view below))
      by program code i h truths st1 e =
          e ∙ (ap (λ (f : Bool → State Value). by_tree code i f (slots_view below) (branch program v h st1)) (λ j b. at b j)
          ∙ sym (branch_leads program code i h (slots_view below) st1 truths (dropped i.next) (kept place.0) v))
        where
          at : (b : Bool) → branched program code i false place (Some v) (slots_view below) b ≡ decided code b (dropped i.next) (kept place.0) v (slots_view below)
          at true = refl
          at false = refl

-- the same by what was taken, for code

module _ (place : Pc) (blocks : Blocks) (old : List Slot) (cells : List (Option Value)) (heap : List Object) (new : List Slot)
    (changed : List (Option Value)) (grown : List Object) where
  pub jump_if_row : (p : Progress) (v : Value) (below : List Slot) → one_value old ≡ Some v → below ≡ drop 1 old
      → Branches v true place None blocks below cells heap p new changed grown → RowsOperation (instr.JumpIf place) blocks old cells heap p new changed grown
  jump_if_row p v below e b done =
      subst (λ x. RowsOperation (instr.JumpIf place) blocks x cells heap p new changed grown)
      (sym (one_on old v e ∙ ap (λ ss. slot.Value v ∷ ss) (sym b))) (jump_if_of place v blocks below cells heap p new changed grown done)

  pub jump_if_lacks : one_value old ≡ None → RowsOperation (instr.JumpIf place) blocks old cells heap progress.Lacks new changed grown
  unfolding RowsOperation RowsIn
  jump_if_lacks e st s pc i truths knows = stuck_row s.program s.here (with_parts cells heap st) _ (lacks_one old e _)

  pub jump_unless_row : (p : Progress) (v : Value) (below : List Slot) → one_value old ≡ Some v → below ≡ drop 1 old
      → Branches v false place None blocks below cells heap p new changed grown → RowsOperation (instr.JumpUnless place) blocks old cells heap p new changed grown
  jump_unless_row p v below e b done =
      subst (λ x. RowsOperation (instr.JumpUnless place) blocks x cells heap p new changed grown)
      (sym (one_on old v e ∙ ap (λ ss. slot.Value v ∷ ss) (sym b))) (jump_unless_of place v blocks below cells heap p new changed grown done)

  pub jump_unless_lacks : one_value old ≡ None → RowsOperation (instr.JumpUnless place) blocks old cells heap progress.Lacks new changed grown
  unfolding RowsOperation RowsIn
  jump_unless_lacks e st s pc i truths knows = stuck_row s.program s.here (with_parts cells heap st) _ (lacks_one old e _)

  pub jump_if_keep_row : (p : Progress) (v : Value) (below : List Slot) → one_value old ≡ Some v → below ≡ drop 1 old
      → Branches v true place (Some v) blocks below cells heap p new changed grown → RowsOperation (instr.JumpIfKeep place) blocks old cells heap p new changed grown
  jump_if_keep_row p v below e b done =
      subst (λ x. RowsOperation (instr.JumpIfKeep place) blocks x cells heap p new changed grown)
      (sym (one_on old v e ∙ ap (λ ss. slot.Value v ∷ ss) (sym b))) (jump_if_keep_of place v blocks below cells heap p new changed grown done)

  pub jump_if_keep_lacks : one_value old ≡ None → RowsOperation (instr.JumpIfKeep place) blocks old cells heap progress.Lacks new changed grown
  unfolding RowsOperation RowsIn
  jump_if_keep_lacks e st s pc i truths knows = stuck_row s.program s.here (with_parts cells heap st) _ (lacks_one old e _)

  pub jump_unless_keep_row : (p : Progress) (v : Value) (below : List Slot) → one_value old ≡ Some v → below ≡ drop 1 old
      → Branches v false place (Some v) blocks below cells heap p new changed grown → RowsOperation (instr.JumpUnlessKeep place) blocks old cells heap p new changed grown
  jump_unless_keep_row p v below e b done =
      subst (λ x. RowsOperation (instr.JumpUnlessKeep place) blocks x cells heap p new changed grown)
      (sym (one_on old v e ∙ ap (λ ss. slot.Value v ∷ ss) (sym b))) (jump_unless_keep_of place v blocks below cells heap p new changed grown done)

  pub jump_unless_keep_lacks : one_value old ≡ None → RowsOperation (instr.JumpUnlessKeep place) blocks old cells heap progress.Lacks new changed grown
  unfolding RowsOperation RowsIn
  jump_unless_keep_lacks e st s pc i truths knows = stuck_row s.program s.here (with_parts cells heap st) _ (lacks_one old e _)
