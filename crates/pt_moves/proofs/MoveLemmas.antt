-- Rows of instructions that move slots, go to places, or give a constant.
use Rattle.std.proofs.Common.{◌≡◌, List, [], ◌∷◌, Some, None, refl, sym, ap, subst}
use Rattle.std.specs.Prelude.{drop}
use Rattle.pt_base.specs.declared.numbers.Pc.{Pc}
use Rattle.pt_instr.specs.declared.Instr.TheVariants as instr
use Rattle.pt_heap.specs.declared.value.Value.{Value}
use Rattle.pt_heap.specs.declared.completion.Completion.TheVariants as completion
use Rattle.pt_frames.specs.declared.slot.Slot.{Slot}
use Rattle.pt_frames.specs.declared.slot.Slot.TheVariants as slot
use Rattle.sem_control.specs.control.Turn as T
use Rattle.sem_control.specs.control.Turn.{Turn, stuck}
use Rattle.sem_code.specs.slots.Slots as S
use Rattle.sem_code.specs.slots.Slots.{State}
use Rattle.sem_code.specs.slots.Pops.{Next, one, two, three, movable}
use Rattle.sem_run.specs.run.Host.{Here}
use Rattle.sem_rows.specs.pt_host.World.{Stores, Program}
use Rattle.sem_rows.specs.pt_host.HeapHost.{heap_host}
use Rattle.sem_run.specs.transitions.Transitions.{transition}
use Rattle.sem_run.specs.transitions.Successors.{successor, none}
use Rattle.sem_rows.specs.declared.heap_rows.progress.Progress.TheVariants as progress
use Rattle.sem_rows.specs.heap_rows.Views.{slots_view}
use Rattle.sem_rows.proofs.heap_rows.RowLemmas.{moves_lead, leaves_lead, discards_lead}
use Rattle.pt_moves.specs.Operands.{one_value, two_values, three_values, one_movable, RowsSlots}
use Rattle.pt_moves.proofs.TakeLemmas.{one_on, two_on, three_on}

-- where values are missing the turn is stuck

pub lacks_one : (slots : List Slot) → one_value slots ≡ None → (next : Next Value Value) → one (slots_view slots) next ≡ stuck
lacks_one [] e next = refl
lacks_one (slot.Value v ∷ slots) e next = absurd (cc)
lacks_one (slot.Cell n ∷ slots) e next = refl
lacks_one (slot.Iter v ∷ slots) e next = refl
lacks_one (slot.Exc v ∷ slots) e next = refl
lacks_one (slot.Pending c ∷ slots) e next = refl
lacks_one (slot.With v ∷ slots) e next = refl

pub lacks_two : (slots : List Slot) → two_values slots ≡ None → (next : Value → Next Value Value) → two (slots_view slots) next ≡ stuck
lacks_two [] e next = refl
lacks_two (slot.Cell n ∷ slots) e next = refl
lacks_two (slot.Iter v ∷ slots) e next = refl
lacks_two (slot.Exc v ∷ slots) e next = refl
lacks_two (slot.Pending c ∷ slots) e next = refl
lacks_two (slot.With v ∷ slots) e next = refl
lacks_two (slot.Value w ∷ []) e next = refl
lacks_two (slot.Value w ∷ slot.Value v ∷ slots) e next = absurd (cc)
lacks_two (slot.Value w ∷ slot.Cell n ∷ slots) e next = refl
lacks_two (slot.Value w ∷ slot.Iter v ∷ slots) e next = refl
lacks_two (slot.Value w ∷ slot.Exc v ∷ slots) e next = refl
lacks_two (slot.Value w ∷ slot.Pending c ∷ slots) e next = refl
lacks_two (slot.Value w ∷ slot.With v ∷ slots) e next = refl

lacks_third : (v w : Value) (slots : List Slot) → three_values (slot.Value w ∷ (slot.Value v ∷ slots)) ≡ None → (next : Value → Value → Next Value Value)
    → three (slots_view (slot.Value w ∷ (slot.Value v ∷ slots))) next ≡ stuck
lacks_third v w [] e next = refl
lacks_third v w (slot.Value u ∷ slots) e next = absurd (cc)
lacks_third v w (slot.Cell n ∷ slots) e next = refl
lacks_third v w (slot.Iter u ∷ slots) e next = refl
lacks_third v w (slot.Exc u ∷ slots) e next = refl
lacks_third v w (slot.Pending c ∷ slots) e next = refl
lacks_third v w (slot.With u ∷ slots) e next = refl

pub lacks_three : (slots : List Slot) → three_values slots ≡ None → (next : Value → Value → Next Value Value) → three (slots_view slots) next ≡ stuck
lacks_three [] e next = refl
lacks_three (slot.Cell n ∷ slots) e next = refl
lacks_three (slot.Iter v ∷ slots) e next = refl
lacks_three (slot.Exc v ∷ slots) e next = refl
lacks_three (slot.Pending c ∷ slots) e next = refl
lacks_three (slot.With v ∷ slots) e next = refl
lacks_three (slot.Value w ∷ []) e next = refl
lacks_three (slot.Value w ∷ slot.Value v ∷ slots) e next = lacks_third v w slots e next
lacks_three (slot.Value w ∷ slot.Cell n ∷ slots) e next = refl
lacks_three (slot.Value w ∷ slot.Iter v ∷ slots) e next = refl
lacks_three (slot.Value w ∷ slot.Exc v ∷ slots) e next = refl
lacks_three (slot.Value w ∷ slot.Pending c ∷ slots) e next = refl
lacks_three (slot.Value w ∷ slot.With v ∷ slots) e next = refl

pub stuck_row : (program : Program) (h : Here Value) (st : Stores) (t : Turn (State Value) Value) → t ≡ stuck → none ≡ successor (transition (heap_host program) t h st)
stuck_row program h st t e = sym (ap (λ u. successor (transition (heap_host program) u h st)) e)

-- rows

pub nop_row : (slots : List Slot) → RowsSlots instr.Nop slots progress.Next slots
unfolding RowsSlots
nop_row slots program code pc i h st known = sym (moves_lead program code i h st (S.on i.next (slots_view slots)) (slots_view slots))

pub jump_row : (to : Pc) (slots : List Slot) → RowsSlots (instr.Jump to) slots (progress.Goto to) slots
unfolding RowsSlots
jump_row to slots program code pc i h st known = sym (moves_lead program code i h st (S.on to.0 (slots_view slots)) (slots_view slots))

pub leave_row : (to : Pc) (slots : List Slot) → RowsSlots (instr.Leave to) slots (progress.Leaves (completion.Leave to)) slots
unfolding RowsSlots
leave_row to slots program code pc i h st known = sym (leaves_lead program code i h st T.jumping (S.jump_to to.0) (slots_view slots))

module _ (old new : List Slot) where
  pub pop_lacks : one_value old ≡ None → RowsSlots instr.Pop old progress.Lacks new
  unfolding RowsSlots
  pop_lacks e program code pc i h st known = stuck_row program h st _ (lacks_one old e _)

  pub return_lacks : one_value old ≡ None → RowsSlots instr.Return old progress.Lacks new
  unfolding RowsSlots
  return_lacks e program code pc i h st known = stuck_row program h st _ (lacks_one old e _)

  pub copy_lacks : one_value old ≡ None → RowsSlots instr.Copy old progress.Lacks new
  unfolding RowsSlots
  copy_lacks e program code pc i h st known = stuck_row program h st _ (lacks_one old e _)

  pub copy_two_lacks : two_values old ≡ None → RowsSlots instr.Copy2 old progress.Lacks new
  unfolding RowsSlots
  copy_two_lacks e program code pc i h st known = stuck_row program h st _ (lacks_two old e _)

  pub swap_lacks : one_value old ≡ None → RowsSlots instr.Swap old progress.Lacks new
  unfolding RowsSlots
  swap_lacks e program code pc i h st known = stuck_row program h st _ (lacks_one old e _)

  pub rotate_lacks : three_values old ≡ None → RowsSlots instr.Rot3 old progress.Lacks new
  unfolding RowsSlots
  rotate_lacks e program code pc i h st known = stuck_row program h st _ (lacks_three old e _)

pop_of : (v : Value) (below : List Slot) → RowsSlots instr.Pop (slot.Value v ∷ below) progress.Next below
unfolding RowsSlots
pop_of v below program code pc i h st known = sym (discards_lead program code i h st v (slots_view below))

return_of : (v : Value) (below : List Slot) → RowsSlots instr.Return (slot.Value v ∷ below) (progress.Leaves (completion.Return v)) below
unfolding RowsSlots
return_of v below program code pc i h st known = sym (leaves_lead program code i h st (T.returning v) (S.return v) (slots_view below))

copy_of : (v : Value) (below : List Slot) → RowsSlots instr.Copy (slot.Value v ∷ below) progress.Next (slot.Value v ∷ (slot.Value v ∷ below))
unfolding RowsSlots
copy_of v below program code pc i h st known = sym (moves_lead program code i h st (S.on i.next (S.value v ∷ (S.value v ∷ slots_view below))) (slots_view below))

copy_two_of : (v w : Value) (below : List Slot)
    → RowsSlots instr.Copy2 (slot.Value w ∷ (slot.Value v ∷ below)) progress.Next (slot.Value w ∷ (slot.Value v ∷ (slot.Value w ∷ (slot.Value v ∷ below))))
unfolding RowsSlots
copy_two_of v w below program code pc i h st known =
    sym (moves_lead program code i h st (S.on i.next (S.value w ∷ (S.value v ∷ (S.value w ∷ (S.value v ∷ slots_view below))))) (slots_view below))

rotate_of : (u v w : Value) (below : List Slot)
    → RowsSlots instr.Rot3 (slot.Value w ∷ (slot.Value v ∷ (slot.Value u ∷ below))) progress.Next (slot.Value v ∷ (slot.Value u ∷ (slot.Value w ∷ below)))
unfolding RowsSlots
rotate_of u v w below program code pc i h st known = sym (moves_lead program code i h st (S.on i.next (S.value v ∷ (S.value u ∷ (S.value w ∷ slots_view below)))) (slots_view below))

-- the slot below the top one is a value or an iterator

swap_value : (v u : Value) (below : List Slot) → RowsSlots instr.Swap (slot.Value v ∷ (slot.Value u ∷ below)) progress.Next (slot.Value u ∷ (slot.Value v ∷ below))
unfolding RowsSlots
swap_value v u below program code pc i h st known = sym (moves_lead program code i h st (S.on i.next (S.value u ∷ (S.value v ∷ slots_view below))) (slots_view below))

swap_iterator : (v u : Value) (below : List Slot) → RowsSlots instr.Swap (slot.Value v ∷ (slot.Iter u ∷ below)) progress.Next (slot.Iter u ∷ (slot.Value v ∷ below))
unfolding RowsSlots
swap_iterator v u below program code pc i h st known = sym (moves_lead program code i h st (S.on i.next (S.iterator u ∷ (S.value v ∷ slots_view below))) (slots_view below))

swap_of : (v : Value) (s : Slot) (slots : List Slot) → one_movable slots ≡ Some s → RowsSlots instr.Swap (slot.Value v ∷ slots) progress.Next (s ∷ (slot.Value v ∷ drop 1 slots))
swap_of v s [] e = absurd (cc)
swap_of v s (slot.Value u ∷ below) e = subst (λ x. RowsSlots instr.Swap (slot.Value v ∷ (slot.Value u ∷ below)) progress.Next (x ∷ (slot.Value v ∷ below))) (let q : slot.Value u ≡ s = cc in q) (swap_value v u below)
swap_of v s (slot.Iter u ∷ below) e = subst (λ x. RowsSlots instr.Swap (slot.Value v ∷ (slot.Iter u ∷ below)) progress.Next (x ∷ (slot.Value v ∷ below))) (let q : slot.Iter u ≡ s = cc in q) (swap_iterator v u below)
swap_of v s (slot.Cell n ∷ below) e = absurd (cc)
swap_of v s (slot.Exc u ∷ below) e = absurd (cc)
swap_of v s (slot.Pending c ∷ below) e = absurd (cc)
swap_of v s (slot.With u ∷ below) e = absurd (cc)

swap_stuck : (slots : List Slot) → one_movable slots ≡ None → (next : Next Value (S.Slot Value)) → movable (slots_view slots) next ≡ stuck
swap_stuck [] e next = refl
swap_stuck (slot.Value u ∷ below) e next = absurd (cc)
swap_stuck (slot.Iter u ∷ below) e next = absurd (cc)
swap_stuck (slot.Cell n ∷ below) e next = refl
swap_stuck (slot.Exc u ∷ below) e next = refl
swap_stuck (slot.Pending c ∷ below) e next = refl
swap_stuck (slot.With u ∷ below) e next = refl

swap_lacks_of : (v : Value) (slots new : List Slot) → one_movable slots ≡ None → RowsSlots instr.Swap (slot.Value v ∷ slots) progress.Lacks new
unfolding RowsSlots
swap_lacks_of v slots new e program code pc i h st known = stuck_row program h st _ (swap_stuck slots e _)

-- the same by what was taken, for code

module _ (old new : List Slot) where
  pub pop_row : (v : Value) → one_value old ≡ Some v → new ≡ drop 1 old → RowsSlots instr.Pop old progress.Next new
  pop_row v e f = subst (λ n. RowsSlots instr.Pop old progress.Next n) (sym f)
      (subst (λ o. RowsSlots instr.Pop o progress.Next (drop 1 old)) (sym (one_on old v e)) (pop_of v (drop 1 old)))

  pub return_row : (v : Value) → one_value old ≡ Some v → new ≡ drop 1 old → RowsSlots instr.Return old (progress.Leaves (completion.Return v)) new
  return_row v e f = subst (λ n. RowsSlots instr.Return old (progress.Leaves (completion.Return v)) n) (sym f)
      (subst (λ o. RowsSlots instr.Return o (progress.Leaves (completion.Return v)) (drop 1 old)) (sym (one_on old v e)) (return_of v (drop 1 old)))

  pub copy_row : (v : Value) → one_value old ≡ Some v → new ≡ slot.Value v ∷ (slot.Value v ∷ drop 1 old) → RowsSlots instr.Copy old progress.Next new
  copy_row v e f = subst (λ n. RowsSlots instr.Copy old progress.Next n) (sym f)
      (subst (λ o. RowsSlots instr.Copy o progress.Next (slot.Value v ∷ (slot.Value v ∷ drop 1 old))) (sym (one_on old v e)) (copy_of v (drop 1 old)))

  pub copy_two_row : (p : Value × Value) → two_values old ≡ Some p → new ≡ slot.Value p.1 ∷ (slot.Value p.0 ∷ (slot.Value p.1 ∷ (slot.Value p.0 ∷ drop 2 old)))
      → RowsSlots instr.Copy2 old progress.Next new
  copy_two_row (v, w) e f = subst (λ n. RowsSlots instr.Copy2 old progress.Next n) (sym f)
      (subst (λ o. RowsSlots instr.Copy2 o progress.Next (slot.Value w ∷ (slot.Value v ∷ (slot.Value w ∷ (slot.Value v ∷ drop 2 old))))) (sym (two_on old v w e)) (copy_two_of v w (drop 2 old)))

  pub rotate_row : (p : Value × (Value × Value)) → three_values old ≡ Some p → new ≡ slot.Value p.1.0 ∷ (slot.Value p.0 ∷ (slot.Value p.1.1 ∷ drop 3 old))
      → RowsSlots instr.Rot3 old progress.Next new
  rotate_row (u, (v, w)) e f = subst (λ n. RowsSlots instr.Rot3 old progress.Next n) (sym f)
      (subst (λ o. RowsSlots instr.Rot3 o progress.Next (slot.Value v ∷ (slot.Value u ∷ (slot.Value w ∷ drop 3 old)))) (sym (three_on old u v w e)) (rotate_of u v w (drop 3 old)))

  pub swap_row : (v : Value) (s : Slot) → one_value old ≡ Some v → one_movable (drop 1 old) ≡ Some s → new ≡ s ∷ (slot.Value v ∷ drop 1 (drop 1 old))
      → RowsSlots instr.Swap old progress.Next new
  swap_row v s e m f = subst (λ n. RowsSlots instr.Swap old progress.Next n) (sym f)
      (subst (λ o. RowsSlots instr.Swap o progress.Next (s ∷ (slot.Value v ∷ drop 1 (drop 1 old)))) (sym (one_on old v e)) (swap_of v s (drop 1 old) m))

  pub swap_lacks_lower : (v : Value) → one_value old ≡ Some v → one_movable (drop 1 old) ≡ None → RowsSlots instr.Swap old progress.Lacks new
  swap_lacks_lower v e m = subst (λ o. RowsSlots instr.Swap o progress.Lacks new) (sym (one_on old v e)) (swap_lacks_of v (drop 1 old) new m)
