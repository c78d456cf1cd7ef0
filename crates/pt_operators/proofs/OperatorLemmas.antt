-- Operations on values that ask no function of the prelude, and rows of operators that give a value at once.
use Rattle.std.proofs.Common.{◌≡◌, ◌∙◌, List, [], ◌∷◌, Option, Some, None, refl, sym, ap, subst}
use Rattle.std.specs.Prelude.{drop}
use Rattle.pt_base.specs.declared.operators.BinOp.{BinOp}
use Rattle.pt_base.specs.declared.operators.CompareOp.{CompareOp}
use Rattle.pt_instr.specs.declared.Instr.TheVariants as instr
use Rattle.pt_heap.specs.declared.value.Value.{Value}
use Rattle.pt_heap.specs.declared.object.Object.{Object}
use Rattle.pt_frames.specs.declared.slot.Slot.{Slot}
use Rattle.pt_frames.specs.declared.slot.Slot.TheVariants as slot
use Rattle.pt_code.specs.View.{Ins}
use Rattle.sem_control.specs.control.Turn as T
use Rattle.sem_control.specs.control.Turn.{stuck}
use Rattle.sem_code.specs.slots.CodeObject.{CodeObject}
use Rattle.sem_code.specs.slots.Pops.{Next, values}
use Rattle.sem_run.specs.run.Host.{Here}
use Rattle.pt_content.specs.declared.op.Op.{Op}
use Rattle.pt_content.specs.declared.op.Op.TheVariants as op
use Rattle.pt_content.specs.declared.answer.PrimAns.{PrimAns}
use Rattle.pt_content.specs.declared.answer.PrimAns.TheVariants as prim
use Rattle.pt_prims.specs.Operations.{prim_answer, prim_heap}
use Rattle.pt_moves.specs.sem_rows.pt_host.World.{Program, Stores, with_objects}
use Rattle.pt_moves.specs.sem_rows.pt_host.Trees.{Tree}
use Rattle.pt_moves.specs.sem_rows.pt_host.Calls.{asked_in_place, by_prim_or_helper, operated}
use Rattle.pt_moves.specs.sem_rows.pt_host.Primitives.{Awaited, of_prim, one_value, prim_asked}
use Rattle.pt_moves.specs.sem_rows.declared.heap_rows.progress.Progress.{Progress}
use Rattle.pt_moves.specs.sem_rows.heap_rows.Leads.{by_tree, giving}
use Rattle.pt_moves.specs.sem_rows.heap_rows.Told.{told}
use Rattle.pt_moves.specs.sem_rows.heap_rows.Views.{slots_view}
use Rattle.pt_moves.proofs.sem_rows.heap_rows.RowLemmas.{asks_lead}
use Rattle.pt_moves.specs.Operands.{one_value as value_on_top, two_values, RowsHeap}
use Rattle.pt_moves.proofs.TakeLemmas.{two_on}
use Rattle.pt_operators.specs.Operates.{Continuation, Asks, Operates, over_value, progress_of, value_given}

-- what is done with the answer of an operation is what the host's answer leads to, if what that answer comes to is told so
module _ {A : Type 0} (w : Awaited A) (next : Continuation A) (as_progress : PrimAns → Progress) (over : PrimAns → List Slot → List Slot) where
  abbrev pub Tells : PrimAns → Type 0
  Tells a = (program : Program) (code : CodeObject Value) (i : Ins) (h : Here Value) (st : Stores) (slots : List Slot)
      → told program code i h (as_progress a) (slots_view (over a slots)) st ≡ by_tree code i (next code i (slots_view slots)) (slots_view slots) (of_prim w a h st)

  asks_of : (o : Op) (args : List Value) (old : List Slot) (heap : List Object) → Tells (prim_answer o args heap)
      → Asks w next o args old heap (as_progress (prim_answer o args heap)) (over (prim_answer o args heap) old) (prim_heap o args heap)
  unfolding Asks prim_asked
  asks_of o args old heap tells program code i h st = tells program code i h (with_objects (prim_heap o args heap) st) old

  pub asks : (o : Op) (args : List Value) (old : List Slot) (heap : List Object) (p : Progress) (new : List Slot) (grown : List Object) → Tells (prim_answer o args heap)
      → grown ≡ prim_heap o args heap → p ≡ as_progress (prim_answer o args heap) → new ≡ over (prim_answer o args heap) old → Asks w next o args old heap p new grown
  asks o args old heap p new grown tells grows progresses stands =
      subst (λ x. Asks w next o args old heap x new grown) (sym progresses)
      (subst (λ x. Asks w next o args old heap (as_progress (prim_answer o args heap)) x grown) (sym stands)
      (subst (λ x. Asks w next o args old heap (as_progress (prim_answer o args heap)) (over (prim_answer o args heap) old) x) (sym grows) (asks_of o args old heap tells)))

pub answer_told : (a : PrimAns) → Tells one_value (λ code i ss. giving code i ss) progress_of (λ b slots. over_value (value_given b) slots) a
answer_told (prim.Value v) program code i h st slots = refl
answer_told (prim.Values vs) program code i h st slots = refl
answer_told prim.End program code i h st slots = refl
answer_told (prim.Raise class arg) program code i h st slots = refl
answer_told (prim.Help helper vs inverted) program code i h st slots = refl
answer_told (prim.Print t) program code i h st slots = refl
answer_told (prim.Outside what) program code i h st slots = refl

pub operates : (o : Op) (args : List Value) (old : List Slot) (heap : List Object) (p : Progress) (new : List Slot) (grown : List Object) (v : Option Value)
    → v ≡ value_given (prim_answer o args heap) → grown ≡ prim_heap o args heap → p ≡ progress_of (prim_answer o args heap) → new ≡ over_value v old
    → Operates o args old heap p new grown
unfolding Operates
operates o args old heap p new grown v is grows progresses stands =
    asks one_value (λ code i ss. giving code i ss) progress_of (λ b slots. over_value (value_given b) slots) o args old heap p new grown
    (answer_told (prim_answer o args heap)) grows progresses
    (stands ∙ ap (λ x. over_value x old) is)

-- an operation that gives a value asks nothing else
by_value : (program : Program) (o : Op) (vs : List Value) (h : Here Value) (st : Stores) (x : Value) → prim_answer o vs st.world.heap ≡ prim.Value x
    → ◌≡◌ {A = Tree Value} (prim_asked one_value o vs h st) (by_prim_or_helper program o vs h st)
unfolding prim_asked operated
by_value program o vs h st x e =
    ap (λ a. of_prim one_value a h (with_objects (prim_heap o vs st.world.heap) st)) e
    ∙ sym (ap (λ a. asked_in_place program one_value o a h (with_objects (prim_heap o vs st.world.heap) st)) e)

module _ (below : List Slot) (heap : List Object) (p : Progress) (new : List Slot) (grown : List Object) (v w x : Value) where
  abbrev Gives : Op → Type 0
  Gives o = prim_answer o (v ∷ w ∷ []) heap ≡ prim.Value x

  leads : (program : Program) (code : CodeObject Value) (i : Ins) (h : Here Value) (st : Stores) (o : Op) → Gives o → Operates o (v ∷ w ∷ []) below heap p new grown
      → told program code i h p (slots_view new) (with_objects grown st)
      ≡ by_tree code i (giving code i (slots_view below)) (slots_view below) (by_prim_or_helper program o (v ∷ w ∷ []) h (with_objects heap st))
  unfolding Operates Asks
  leads program code i h st o e done =
      done program code i h st
      ∙ ap (λ (t : Tree Value). by_tree code i (giving code i (slots_view below)) (slots_view below) t) (by_value program o (v ∷ w ∷ []) h (with_objects heap st) x e)

  binary_of : (o : BinOp) → Gives (op.Binary o) → Operates (op.Binary o) (v ∷ w ∷ []) below heap p new grown
      → RowsHeap (instr.Binary o) (slot.Value w ∷ (slot.Value v ∷ below)) heap p new grown
  unfolding RowsHeap
  binary_of o e done program code pc i h st known = leads program code i h st (op.Binary o) e done
      ∙ sym (asks_lead program code i h (with_objects heap st) (T.seek (T.operate (T.binary o) (v ∷ w ∷ []))) (giving code i (slots_view below)) (slots_view below) tt)

  in_place_of : (o : BinOp) → Gives (op.InPlace o) → Operates (op.InPlace o) (v ∷ w ∷ []) below heap p new grown
      → RowsHeap (instr.InPlace o) (slot.Value w ∷ (slot.Value v ∷ below)) heap p new grown
  unfolding RowsHeap
  in_place_of o e done program code pc i h st known = leads program code i h st (op.InPlace o) e done
      ∙ sym (asks_lead program code i h (with_objects heap st) (T.seek (T.operate (T.in_place o) (v ∷ w ∷ []))) (giving code i (slots_view below)) (slots_view below) tt)

  compare_of : (o : CompareOp) → Gives (op.Compare o) → Operates (op.Compare o) (v ∷ w ∷ []) below heap p new grown
      → RowsHeap (instr.Compare o) (slot.Value w ∷ (slot.Value v ∷ below)) heap p new grown
  unfolding RowsHeap
  compare_of o e done program code pc i h st known = leads program code i h st (op.Compare o) e done
      ∙ sym (asks_lead program code i h (with_objects heap st) (T.seek (T.operate (T.compare o) (v ∷ w ∷ []))) (giving code i (slots_view below)) (slots_view below) tt)

-- the same by what was taken, for code

module _ (old below : List Slot) (heap : List Object) (p : Progress) (new : List Slot) (grown : List Object) (v w x : Value) (e : two_values old ≡ Some (v, w))
    (f : below ≡ drop 2 old) where
  stand : old ≡ slot.Value w ∷ (slot.Value v ∷ below)
  stand = two_on old v w e ∙ ap (λ ss. slot.Value w ∷ (slot.Value v ∷ ss)) (sym f)

  pub binary_values : (o : BinOp) → prim_answer (op.Binary o) (v ∷ w ∷ []) heap ≡ prim.Value x → Operates (op.Binary o) (v ∷ w ∷ []) below heap p new grown
      → RowsHeap (instr.Binary o) old heap p new grown
  binary_values o g done = subst (λ y. RowsHeap (instr.Binary o) y heap p new grown) (sym stand) (binary_of below heap p new grown v w x o g done)

  pub in_place_values : (o : BinOp) → prim_answer (op.InPlace o) (v ∷ w ∷ []) heap ≡ prim.Value x → Operates (op.InPlace o) (v ∷ w ∷ []) below heap p new grown
      → RowsHeap (instr.InPlace o) old heap p new grown
  in_place_values o g done = subst (λ y. RowsHeap (instr.InPlace o) y heap p new grown) (sym stand) (in_place_of below heap p new grown v w x o g done)

  pub compare_values : (o : CompareOp) → prim_answer (op.Compare o) (v ∷ w ∷ []) heap ≡ prim.Value x → Operates (op.Compare o) (v ∷ w ∷ []) below heap p new grown
      → RowsHeap (instr.Compare o) old heap p new grown
  compare_values o g done = subst (λ y. RowsHeap (instr.Compare o) y heap p new grown) (sym stand) (compare_of below heap p new grown v w x o g done)

-- where values are missing

pub lacks_one_of : (slots : List Slot) → value_on_top slots ≡ None → (vs : List Value) (next : Next Value (List Value)) → values 1 vs (slots_view slots) next ≡ stuck
lacks_one_of [] e vs next = refl
lacks_one_of (slot.Value v ∷ slots) e vs next = absurd (cc)
lacks_one_of (slot.Cell n ∷ slots) e vs next = refl
lacks_one_of (slot.Iter v ∷ slots) e vs next = refl
lacks_one_of (slot.Exc v ∷ slots) e vs next = refl
lacks_one_of (slot.Pending c ∷ slots) e vs next = refl
lacks_one_of (slot.With v ∷ slots) e vs next = refl

pub lacks_two_of : (slots : List Slot) → two_values slots ≡ None → (vs : List Value) (next : Next Value (List Value)) → values 2 vs (slots_view slots) next ≡ stuck
lacks_two_of [] e vs next = refl
lacks_two_of (slot.Cell n ∷ slots) e vs next = refl
lacks_two_of (slot.Iter v ∷ slots) e vs next = refl
lacks_two_of (slot.Exc v ∷ slots) e vs next = refl
lacks_two_of (slot.Pending c ∷ slots) e vs next = refl
lacks_two_of (slot.With v ∷ slots) e vs next = refl
lacks_two_of (slot.Value w ∷ []) e vs next = refl
lacks_two_of (slot.Value w ∷ slot.Value v ∷ slots) e vs next = absurd (cc)
lacks_two_of (slot.Value w ∷ slot.Cell n ∷ slots) e vs next = refl
lacks_two_of (slot.Value w ∷ slot.Iter v ∷ slots) e vs next = refl
lacks_two_of (slot.Value w ∷ slot.Exc v ∷ slots) e vs next = refl
lacks_two_of (slot.Value w ∷ slot.Pending c ∷ slots) e vs next = refl
lacks_two_of (slot.Value w ∷ slot.With v ∷ slots) e vs next = refl
