-- Rows of iterators.
use Rattle.std.proofs.Common.{◌≡◌, ◌∙◌, List, [], ◌∷◌, Bool, false, Option, Some, None, Result, Ok, Err, refl, sym, ap, subst}
use Rattle.std.specs.Prelude.{drop}
use Rattle.pt_base.specs.declared.numbers.Pc.{Pc}
use Rattle.sem_control.specs.control.Turn as T
use Rattle.pt_instr.specs.declared.Instr.TheVariants as instr
use Rattle.pt_heap.specs.declared.value.Value.{Value}
use Rattle.pt_heap.specs.declared.object.Object.{Object}
use Rattle.pt_frames.specs.declared.slot.Slot.{Slot}
use Rattle.pt_frames.specs.declared.slot.Slot.TheVariants as slot
use Rattle.pt_code.specs.View.{Ins}
use Rattle.sem_code.specs.slots.Slots as S
use Rattle.sem_code.specs.slots.Slots.{Slots, State}
use Rattle.sem_code.specs.slots.CodeObject.{CodeObject}
use Rattle.sem_code.specs.slots.Steps.{with_item}
use Rattle.sem_run.specs.run.Host.{Here, Item}
use Rattle.pt_content.specs.declared.op.Op.TheVariants as op
use Rattle.pt_content.specs.declared.answer.PrimAns.{PrimAns}
use Rattle.pt_content.specs.declared.answer.PrimAns.TheVariants as prim
use Rattle.pt_block_calls.specs.pt_operators.pt_prims.Operations.{prim_answer, prim_heap}
use Rattle.pt_block_calls.specs.pt_operators.pt_moves.sem_rows.pt_host.Answers.{next_by, next_item}
use Rattle.pt_block_calls.specs.pt_operators.pt_moves.sem_rows.pt_host.Calls.{ask_with, asked_in_place, operated}
use Rattle.pt_block_calls.specs.pt_operators.pt_moves.sem_rows.pt_host.Errors.{error}
use Rattle.pt_block_calls.specs.pt_operators.pt_moves.sem_rows.pt_host.Primitives.{arguments_of, item_or_end, of_prim, one_value as awaits_value}
use Rattle.pt_block_calls.specs.pt_operators.pt_moves.sem_rows.pt_host.Trees.{Tree}
use Rattle.pt_block_calls.specs.pt_operators.pt_moves.sem_rows.pt_host.World.{Program, Stores, allot}
use Rattle.pt_block_calls.specs.pt_operators.pt_moves.sem_rows.declared.heap_rows.progress.Progress.{Progress}
use Rattle.pt_block_calls.specs.pt_operators.pt_moves.sem_rows.declared.heap_rows.progress.Progress.TheVariants as progress
use Rattle.pt_block_calls.specs.pt_operators.pt_moves.sem_rows.heap_rows.Leads.{by_tree, found}
use Rattle.pt_block_calls.specs.pt_operators.pt_moves.sem_rows.heap_rows.RowsIn.{RowsIn}
use Rattle.pt_block_calls.specs.pt_operators.pt_moves.sem_rows.heap_rows.Told.{told}
use Rattle.pt_block_calls.specs.pt_operators.pt_moves.sem_rows.heap_rows.Views.{slots_view}
use Rattle.pt_block_calls.proofs.pt_operators.pt_moves.sem_rows.heap_rows.RowLemmas.{asks_lead, raises_alike}
use Rattle.pt_block_calls.specs.pt_operators.pt_moves.Operands.{one_value}
use Rattle.pt_block_calls.proofs.pt_operators.pt_moves.TakeLemmas.{one_on}
use Rattle.pt_block_calls.proofs.pt_operators.pt_moves.MoveLemmas.{lacks_one, stuck_row}
use Rattle.pt_block_calls.specs.pt_operators.Operates.{progress_of, value_given}
use Rattle.pt_block_calls.specs.pt_function_rows.pt_code_facts.declared.facts.Blocks.{Blocks}
use Rattle.pt_block_calls.specs.pt_class_rows.Calls.{with_parts}
use Rattle.pt_block_calls.specs.declared.blocks.Given.TheVariants as gives
use Rattle.pt_block_calls.specs.BlockCalls.{AnswersAsk, AsksFor, AsksWith, RowsOperation, is_help}
use Rattle.pt_block_calls.proofs.AskLemmas.{alone_is, unit}
use Rattle.pt_container_rows.specs.Operands.{one_iterator}
use Rattle.pt_container_rows.specs.Answers.{over_item, over_iterator, progress_of_item}
use Rattle.pt_container_rows.proofs.TakeLemmas.{iterator_on, lacks_iterator}

-- the iterator over a value is given

abbrev with_iterator : CodeObject Value → Ins → Slots Value → Value → State Value
with_iterator code i ss it = S.on i.next (S.iterator it ∷ ss)

iterator_told : (a : PrimAns) (program : Program) (code : CodeObject Value) (i : Ins) (h : Here Value) (st : Stores) (slots : List Slot)
    → told program code i h (progress_of a) (slots_view (over_iterator (value_given a) slots)) st
    ≡ by_tree code i (with_iterator code i (slots_view slots)) (slots_view slots) (of_prim awaits_value a h st)
iterator_told (prim.Value v) program code i h st slots = refl
iterator_told (prim.Values vs) program code i h st slots = refl
iterator_told prim.End program code i h st slots = refl
iterator_told (prim.Raise class arg) program code i h st slots =
    raises_alike code i (with_iterator code i (slots_view slots)) (slots_view slots) (allot (error class (arguments_of arg) None h.active) st.world.heap) st
iterator_told (prim.Help helper vs inverted) program code i h st slots = refl
iterator_told (prim.Print t) program code i h st slots = refl
iterator_told (prim.Outside what) program code i h st slots = refl

module _ (v : Value) (blocks : Blocks) (below : List Slot) (cells : List (Option Value)) (heap : List Object) (p : Progress) (changed : List (Option Value))
    (grown : List Object) where
  abbrev Iterates : List Slot → Type 0
  Iterates new = AnswersAsk (T.iter_of v) with_iterator blocks below cells heap p new changed grown

  iterates_alone : (a : PrimAns) (o : Option Value) (new : List Slot) → AsksFor op.Iter (v ∷ []) gives.Iterate blocks cells heap (Ok a) changed grown
      → p ≡ progress_of a → o ≡ value_given a → new ≡ over_iterator o below → Iterates new
  unfolding AnswersAsk
  iterates_alone a o new asks goes given stands program code i h st knows =
      ap (λ x. told program code i h x (slots_view new) (with_parts changed grown st)) goes
      ∙ (ap (λ ss. told program code i h (progress_of a) (slots_view ss) (with_parts changed grown st)) (stands ∙ ap (λ x. over_iterator x below) given)
      ∙ (iterator_told a program code i h (with_parts changed grown st) below
      ∙ ap (λ (t : Tree Value). by_tree code i (with_iterator code i (slots_view below)) (slots_view below) t)
      (alone_is op.Iter (v ∷ []) gives.Iterate blocks cells heap changed grown awaits_value a program h st asks)))

  iterates_asked : AsksFor op.Iter (v ∷ []) gives.Iterate blocks cells heap (Err p) changed grown → Iterates below
  unfolding AnswersAsk AsksFor AsksWith operated
  iterates_asked (x, (us, (b, (is, done)))) program code i h st knows =
      done below program code i h st knows
      ∙ ap (λ (t : Tree Value). by_tree code i (with_iterator code i (slots_view below)) (slots_view below) t)
      (unit (ask_with program x us h (with_parts cells (prim_heap op.Iter (v ∷ []) heap) st))
      ∙ ap (λ k. asked_in_place program awaits_value op.Iter k h (with_parts cells (prim_heap op.Iter (v ∷ []) heap) st)) (sym is))

  iter_of : (new : List Slot) → Iterates new → RowsOperation instr.Iter blocks (slot.Value v ∷ below) cells heap p new changed grown
  unfolding AnswersAsk RowsOperation RowsIn
  iter_of new done st s pc i truths knows =
      done s.program s.code i s.here st knows
      ∙ sym (asks_lead s.program s.code i s.here (with_parts cells heap st) (T.iter_of v) (with_iterator s.code i (slots_view below)) (slots_view below) tt)

-- an item is given above its iterator, or there is none

abbrev with_next : Pc → Value → CodeObject Value → Ins → Slots Value → Option Value → State Value
with_next to it code i ss = with_item code i to.0 it ss

item_told : (to : Pc) (it : Value) (a : PrimAns) (program : Program) (code : CodeObject Value) (i : Ins) (h : Here Value) (st : Stores) (slots : List Slot)
    → told program code i h (progress_of_item to a) (slots_view (over_item it (value_given a) slots)) st
    ≡ by_tree code i (found (T.next_of it) (with_next to it code i (slots_view slots))) (slots_view slots) (of_prim item_or_end a h st)
item_told to it (prim.Value v) program code i h st slots = refl
item_told to it (prim.Values vs) program code i h st slots = refl
item_told to it prim.End program code i h st slots = refl
item_told to it (prim.Raise class arg) program code i h st slots =
    raises_alike code i (found (T.next_of it) (with_next to it code i (slots_view slots))) (slots_view slots)
    (allot (error class (arguments_of arg) None h.active) st.world.heap) st
item_told to it (prim.Help helper vs inverted) program code i h st slots = refl
item_told to it (prim.Print t) program code i h st slots = refl
item_told to it (prim.Outside what) program code i h st slots = refl

next_alone : (program : Program) (h : Here Value) (st : Stores) (a : PrimAns) → is_help a ≡ false
    → ◌≡◌ {A = Tree (Item Value)} (of_prim item_or_end a h st) (next_by program a h st)
next_alone program h st (prim.Value v) e = refl
next_alone program h st (prim.Values vs) e = refl
next_alone program h st prim.End e = refl
next_alone program h st (prim.Raise class arg) e = refl
next_alone program h st (prim.Help x us b) e = absurd (cc)
next_alone program h st (prim.Print t) e = refl
next_alone program h st (prim.Outside what) e = refl

module _ (to : Pc) (it : Value) (blocks : Blocks) (below : List Slot) (cells : List (Option Value)) (heap : List Object) (p : Progress)
    (changed : List (Option Value)) (grown : List Object) where
  abbrev Advances : List Slot → Type 0
  Advances new = AnswersAsk (T.next_of it) (with_next to it) blocks below cells heap p new changed grown

  advances_alone : (a : PrimAns) (o : Option Value) (new : List Slot) → AsksFor op.Next (it ∷ []) (gives.Item it to) blocks cells heap (Ok a) changed grown
      → p ≡ progress_of_item to a → o ≡ value_given a → new ≡ over_item it o below → Advances new
  unfolding AnswersAsk AsksFor
  advances_alone a o new asks goes given stands program code i h st knows =
      ap (λ x. told program code i h x (slots_view new) (with_parts changed grown st)) goes
      ∙ (ap (λ ss. told program code i h (progress_of_item to a) (slots_view ss) (with_parts changed grown st)) (stands ∙ ap (λ x. over_item it x below) given)
      ∙ (item_told to it a program code i h (with_parts changed grown st) below
      ∙ ap (λ (t : Tree (Item Value)). by_tree code i (found (T.next_of it) (with_next to it code i (slots_view below))) (slots_view below) t)
      (next_alone program h (with_parts changed grown st) a asks.0.1
      ∙ (ap (λ k. next_by program k h (with_parts changed grown st)) asks.0.0
      ∙ (ap (λ k. next_by program (prim_answer op.Next (it ∷ []) heap) h (with_parts changed k st)) asks.1.0
      ∙ ap (λ k. next_by program (prim_answer op.Next (it ∷ []) heap) h (with_parts k (prim_heap op.Next (it ∷ []) heap) st)) asks.1.1)))))

  advances_asked : AsksFor op.Next (it ∷ []) (gives.Item it to) blocks cells heap (Err p) changed grown → Advances below
  unfolding AnswersAsk AsksFor AsksWith
  advances_asked (x, (us, (b, (is, done)))) program code i h st knows =
      done below program code i h st knows
      ∙ ap (λ k. by_tree code i (found (T.next_of it) (with_next to it code i (slots_view below))) (slots_view below)
      (next_by program k h (with_parts cells (prim_heap op.Next (it ∷ []) heap) st))) (sym is)

  next_of : (new : List Slot) → Advances new → RowsOperation (instr.Next to) blocks (slot.Iter it ∷ below) cells heap p new changed grown
  unfolding AnswersAsk RowsOperation RowsIn
  next_of new done st s pc i truths knows =
      done s.program s.code i s.here st knows
      ∙ sym (asks_lead s.program s.code i s.here (with_parts cells heap st) (T.next_of it) (with_next to it s.code i (slots_view below)) (slots_view below) tt)

-- the same by what was taken and given, for code

module _ (blocks : Blocks) (old : List Slot) (cells : List (Option Value)) (heap : List Object) (changed : List (Option Value)) (grown : List Object) where
  module _ (v : Value) (below : List Slot) (e : one_value old ≡ Some v) (b : below ≡ drop 1 old) where
    stand : old ≡ slot.Value v ∷ below
    stand = one_on old v e ∙ ap (λ ss. slot.Value v ∷ ss) (sym b)

    abbrev AskedIter : Result PrimAns Progress → Type 0
    AskedIter r = AsksFor op.Iter (v ∷ []) gives.Iterate blocks cells heap r changed grown

    pub iter_answered : (r : Result PrimAns Progress) (a : PrimAns) (o : Option Value) (p : Progress) (new : List Slot) → AskedIter r → r ≡ Ok a
        → p ≡ progress_of a → o ≡ value_given a → new ≡ over_iterator o below → RowsOperation instr.Iter blocks old cells heap p new changed grown
    iter_answered r a o p new asks so goes given stands =
        subst (λ x. RowsOperation instr.Iter blocks x cells heap p new changed grown) (sym stand)
        (iter_of v blocks below cells heap p changed grown new (iterates_alone v blocks below cells heap p changed grown a o new (subst AskedIter so asks) goes given stands))

    pub iter_asked : (r : Result PrimAns Progress) (p : Progress) → AskedIter r → r ≡ Err p → RowsOperation instr.Iter blocks old cells heap p below changed grown
    iter_asked r p asks so =
        subst (λ x. RowsOperation instr.Iter blocks x cells heap p below changed grown) (sym stand)
        (iter_of v blocks below cells heap p changed grown below (iterates_asked v blocks below cells heap p changed grown (subst AskedIter so asks)))

  pub iter_lacks : (new : List Slot) → one_value old ≡ None → RowsOperation instr.Iter blocks old cells heap progress.Lacks new changed grown
  unfolding RowsOperation RowsIn
  iter_lacks new e st s pc i truths knows = stuck_row s.program s.here (with_parts cells heap st) _ (lacks_one old e _)

  module _ (to : Pc) (it : Value) (below : List Slot) (e : one_iterator old ≡ Some it) (b : below ≡ drop 1 old) where
    stands_on : old ≡ slot.Iter it ∷ below
    stands_on = iterator_on old it e ∙ ap (λ ss. slot.Iter it ∷ ss) (sym b)

    abbrev AskedNext : Result PrimAns Progress → Type 0
    AskedNext r = AsksFor op.Next (it ∷ []) (gives.Item it to) blocks cells heap r changed grown

    pub next_answered : (r : Result PrimAns Progress) (a : PrimAns) (o : Option Value) (p : Progress) (new : List Slot) → AskedNext r → r ≡ Ok a
        → p ≡ progress_of_item to a → o ≡ value_given a → new ≡ over_item it o below → RowsOperation (instr.Next to) blocks old cells heap p new changed grown
    next_answered r a o p new asks so goes given stands =
        subst (λ x. RowsOperation (instr.Next to) blocks x cells heap p new changed grown) (sym stands_on)
        (next_of to it blocks below cells heap p changed grown new (advances_alone to it blocks below cells heap p changed grown a o new (subst AskedNext so asks) goes given stands))

    pub next_asked : (r : Result PrimAns Progress) (p : Progress) → AskedNext r → r ≡ Err p → RowsOperation (instr.Next to) blocks old cells heap p below changed grown
    next_asked r p asks so =
        subst (λ x. RowsOperation (instr.Next to) blocks x cells heap p below changed grown) (sym stands_on)
        (next_of to it blocks below cells heap p changed grown below (advances_asked to it blocks below cells heap p changed grown (subst AskedNext so asks)))

  pub next_lacks : (to : Pc) (new : List Slot) → one_iterator old ≡ None → RowsOperation (instr.Next to) blocks old cells heap progress.Lacks new changed grown
  unfolding RowsOperation RowsIn
  next_lacks to new e st s pc i truths knows = stuck_row s.program s.here (with_parts cells heap st) _ (lacks_iterator old e _)
