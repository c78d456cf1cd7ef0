-- Rows of handlers and of `finally` parts.
use Rattle.std.proofs.Common.{◌≡◌, List, [], ◌∷◌, Some, None, refl, sym, ap, subst}
use Rattle.std.specs.Prelude.{drop, slice_get}
use Rattle.pt_instr.specs.declared.Instr.TheVariants as instr
use Rattle.pt_heap.specs.declared.value.Value.{Value}
use Rattle.pt_heap.specs.declared.completion.Completion.{Completion}
use Rattle.pt_heap.specs.declared.completion.Completion.TheVariants as completion
use Rattle.pt_frames.specs.declared.slot.Slot.{Slot}
use Rattle.pt_frames.specs.declared.slot.Slot.TheVariants as slot
use Rattle.pt_frames.specs.Slots.{active_in}
use Rattle.sem_control.specs.control.Turn.{stuck}
use Rattle.sem_code.specs.slots.Slots as S
use Rattle.sem_code.specs.slots.Pops.{Next, an_exception, a_completion}
use Rattle.sem_code.specs.slots.Landing.{land}
use Rattle.pt_moves.specs.sem_rows.declared.heap_rows.progress.Progress.TheVariants as progress
use Rattle.pt_moves.specs.sem_rows.heap_rows.Views.{slots_view}
use Rattle.pt_moves.specs.sem_rows.heap_rows.Told.{KeepsActive}
use Rattle.pt_moves.proofs.sem_rows.heap_rows.RowLemmas.{moves_lead}
use Rattle.pt_moves.specs.Operands.{RowsSlots}
use Rattle.pt_moves.proofs.MoveLemmas.{stuck_row}
use Rattle.pt_handler_rows.specs.Held.{exception_in, one_exception, completion_in, one_completion, let_go}

-- slots with an exception on top are that and those below, and so of a completion

pub first_exception : (slots : List Slot) → exception_in (slice_get slots 0) ≡ one_exception slots
first_exception [] = refl
first_exception (slot.Value v ∷ slots) = refl
first_exception (slot.Cell n ∷ slots) = refl
first_exception (slot.Iter v ∷ slots) = refl
first_exception (slot.Exc v ∷ slots) = refl
first_exception (slot.Pending c ∷ slots) = refl
first_exception (slot.With v ∷ slots) = refl

exception_on : (slots : List Slot) (e : Value) → one_exception slots ≡ Some e → slots ≡ slot.Exc e ∷ drop 1 slots
exception_on [] e is = absurd (cc)
exception_on (slot.Value v ∷ slots) e is = absurd (cc)
exception_on (slot.Cell n ∷ slots) e is = absurd (cc)
exception_on (slot.Iter v ∷ slots) e is = absurd (cc)
exception_on (slot.Exc v ∷ slots) e is = ap (λ o. slot.Exc o ∷ slots) (let q : v ≡ e = cc in q)
exception_on (slot.Pending c ∷ slots) e is = absurd (cc)
exception_on (slot.With v ∷ slots) e is = absurd (cc)

lacks_exception : (slots : List Slot) → one_exception slots ≡ None → (next : Next Value Value) → an_exception (slots_view slots) next ≡ stuck
lacks_exception [] is next = refl
lacks_exception (slot.Value v ∷ slots) is next = refl
lacks_exception (slot.Cell n ∷ slots) is next = refl
lacks_exception (slot.Iter v ∷ slots) is next = refl
lacks_exception (slot.Exc v ∷ slots) is next = absurd (cc)
lacks_exception (slot.Pending c ∷ slots) is next = refl
lacks_exception (slot.With v ∷ slots) is next = refl

pub first_completion : (slots : List Slot) → completion_in (slice_get slots 0) ≡ one_completion slots
first_completion [] = refl
first_completion (slot.Value v ∷ slots) = refl
first_completion (slot.Cell n ∷ slots) = refl
first_completion (slot.Iter v ∷ slots) = refl
first_completion (slot.Exc v ∷ slots) = refl
first_completion (slot.Pending c ∷ slots) = refl
first_completion (slot.With v ∷ slots) = refl

completion_on : (slots : List Slot) (c : Completion) → one_completion slots ≡ Some c → slots ≡ slot.Pending c ∷ drop 1 slots
completion_on [] c is = absurd (cc)
completion_on (slot.Value v ∷ slots) c is = absurd (cc)
completion_on (slot.Cell n ∷ slots) c is = absurd (cc)
completion_on (slot.Iter v ∷ slots) c is = absurd (cc)
completion_on (slot.Exc v ∷ slots) c is = absurd (cc)
completion_on (slot.Pending d ∷ slots) c is = ap (λ o. slot.Pending o ∷ slots) (let q : d ≡ c = cc in q)
completion_on (slot.With v ∷ slots) c is = absurd (cc)

lacks_completion : (slots : List Slot) → one_completion slots ≡ None → (next : Next Value (S.Completion Value)) → a_completion (slots_view slots) next ≡ stuck
lacks_completion [] is next = refl
lacks_completion (slot.Value v ∷ slots) is next = refl
lacks_completion (slot.Cell n ∷ slots) is next = refl
lacks_completion (slot.Iter v ∷ slots) is next = refl
lacks_completion (slot.Exc v ∷ slots) is next = refl
lacks_completion (slot.Pending c ∷ slots) is next = absurd (cc)
lacks_completion (slot.With v ∷ slots) is next = refl

-- rows

module _ (v : Value) (below : List Slot) where
  caught_of : RowsSlots instr.Caught (slot.Exc v ∷ below) progress.Next (slot.Value v ∷ slot.Exc v ∷ below)
  unfolding RowsSlots
  caught_of program code pc i h st known =
      sym (moves_lead program code i h st (S.on i.next (S.value v ∷ S.exception v ∷ slots_view below)) (S.exception v ∷ slots_view below))

  end_of : RowsSlots instr.EndHandler (slot.Exc v ∷ below) progress.Next below
  unfolding RowsSlots
  end_of program code pc i h st known = sym (moves_lead program code i h st (S.on i.next (slots_view below)) (slots_view below))

  rethrow_of : RowsSlots instr.Rethrow (slot.Exc v ∷ below) (progress.Reraises v) below
  unfolding RowsSlots
  rethrow_of program code pc i h st known = sym (moves_lead program code i h st (S.reraises v i.rows (slots_view below)) (slots_view below))

finally_of : (c : Completion) (below : List Slot) → RowsSlots instr.EndFinally (slot.Pending c ∷ below) (let_go c) below
unfolding RowsSlots
finally_of completion.Normal below program code pc i h st known = sym (moves_lead program code i h st (S.on i.next (slots_view below)) (slots_view below))
finally_of (completion.Raise e) below program code pc i h st known = sym
    (moves_lead program code i h st (S.reraises e i.rows (slots_view below)) (slots_view below))
finally_of (completion.Return v) below program code pc i h st known =
    sym (moves_lead program code i h st (land code i.rows (S.return v) (slots_view below)) (slots_view below))
finally_of (completion.Leave target) below program code pc i h st known =
    sym (moves_lead program code i h st (land code i.rows (S.jump_to target.0) (slots_view below)) (slots_view below))

pub normal_row : (slots : List Slot) → RowsSlots instr.Normal slots progress.Next (slot.Pending completion.Normal ∷ slots)
unfolding RowsSlots
normal_row slots program code pc i h st known = sym (moves_lead program code i h st (S.on i.next (S.pending S.normal ∷ slots_view slots)) (slots_view slots))

pub quiet_over_normal : (slots : List Slot) → active_in (slot.Pending completion.Normal ∷ slots) ≡ active_in slots
quiet_over_normal slots = refl

-- a held completion that goes on makes no exception
pub raises_nothing : (c : Completion) (old new : List Slot) → KeepsActive (let_go c) old new
raises_nothing completion.Normal old new = tt
raises_nothing (completion.Raise e) old new = tt
raises_nothing (completion.Return v) old new = tt
raises_nothing (completion.Leave target) old new = tt

-- the same by what was taken, for code

module _ (old new : List Slot) where
  pub caught_row : (v : Value) → one_exception old ≡ Some v → new ≡ slot.Value v ∷ old → RowsSlots instr.Caught old progress.Next new
  caught_row v e f = subst (λ n. RowsSlots instr.Caught old progress.Next n) (sym f)
      (subst (λ o. RowsSlots instr.Caught o progress.Next (slot.Value v ∷ o)) (sym (exception_on old v e)) (caught_of v (drop 1 old)))

  pub caught_lacks : one_exception old ≡ None → RowsSlots instr.Caught old progress.Lacks new
  unfolding RowsSlots
  caught_lacks e program code pc i h st known = stuck_row program h st _ (lacks_exception old e _)

  pub end_row : (v : Value) → one_exception old ≡ Some v → new ≡ drop 1 old → RowsSlots instr.EndHandler old progress.Next new
  end_row v e f = subst (λ n. RowsSlots instr.EndHandler old progress.Next n) (sym f)
      (subst (λ o. RowsSlots instr.EndHandler o progress.Next (drop 1 old)) (sym (exception_on old v e)) (end_of v (drop 1 old)))

  pub end_lacks : one_exception old ≡ None → RowsSlots instr.EndHandler old progress.Lacks new
  unfolding RowsSlots
  end_lacks e program code pc i h st known = stuck_row program h st _ (lacks_exception old e _)

  pub rethrow_row : (v : Value) → one_exception old ≡ Some v → new ≡ drop 1 old → RowsSlots instr.Rethrow old (progress.Reraises v) new
  rethrow_row v e f = subst (λ n. RowsSlots instr.Rethrow old (progress.Reraises v) n) (sym f)
      (subst (λ o. RowsSlots instr.Rethrow o (progress.Reraises v) (drop 1 old)) (sym (exception_on old v e)) (rethrow_of v (drop 1 old)))

  pub rethrow_lacks : one_exception old ≡ None → RowsSlots instr.Rethrow old progress.Lacks new
  unfolding RowsSlots
  rethrow_lacks e program code pc i h st known = stuck_row program h st _ (lacks_exception old e _)

  pub finally_row : (c : Completion) → one_completion old ≡ Some c → new ≡ drop 1 old → RowsSlots instr.EndFinally old (let_go c) new
  finally_row c e f = subst (λ n. RowsSlots instr.EndFinally old (let_go c) n) (sym f)
      (subst (λ o. RowsSlots instr.EndFinally o (let_go c) (drop 1 old)) (sym (completion_on old c e)) (finally_of c (drop 1 old)))

  pub finally_lacks : one_completion old ≡ None → RowsSlots instr.EndFinally old progress.Lacks new
  unfolding RowsSlots
  finally_lacks e program code pc i h st known = stuck_row program h st _ (lacks_completion old e _)
