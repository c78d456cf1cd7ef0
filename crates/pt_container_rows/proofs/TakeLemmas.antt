-- Iterators on top of slots, and values that stand further down.
use Rattle.std.proofs.Common.{◌≡◌, ℕ, zero, suc, List, [], ◌∷◌, Option, Some, None, refl, sym, ap}
use Rattle.std.specs.Prelude.{drop, slice_get, MatchOption}
use Rattle.pt_heap.specs.declared.value.Value.{Value}
use Rattle.pt_frames.specs.declared.slot.Slot.{Slot}
use Rattle.pt_frames.specs.declared.slot.Slot.TheVariants as slot
use Rattle.pt_frames.specs.Slots.{active_in}
use Rattle.sem_control.specs.control.Turn.{Turn, stuck}
use Rattle.sem_code.specs.slots.Slots.{State}
use Rattle.sem_code.specs.slots.Pops.{Next, an_iterator, the_value}
use Rattle.pt_block_calls.specs.pt_operators.pt_moves.sem_rows.heap_rows.Views.{slots_view}
use Rattle.pt_block_calls.proofs.pt_operators.pt_moves.TakeLemmas.{popped}
use Rattle.pt_container_rows.specs.Operands.{iterator_in, one_iterator, value_down}

pub first_iterator : (slots : List Slot) → iterator_in (slice_get slots 0) ≡ one_iterator slots
first_iterator [] = refl
first_iterator (slot.Value v ∷ slots) = refl
first_iterator (slot.Cell n ∷ slots) = refl
first_iterator (slot.Iter v ∷ slots) = refl
first_iterator (slot.Exc v ∷ slots) = refl
first_iterator (slot.Pending c ∷ slots) = refl
first_iterator (slot.With v ∷ slots) = refl

pub taken_off : (top : Option Slot) (old new : List Slot) → MatchOption top ((old ≡ []) × (new ≡ [])) (λ s. old ≡ s ∷ new) → new ≡ drop 1 old
taken_off top old new e = popped top old new e

pub iterator_on : (slots : List Slot) (v : Value) → one_iterator slots ≡ Some v → slots ≡ slot.Iter v ∷ drop 1 slots
iterator_on [] v e = absurd (cc)
iterator_on (slot.Value w ∷ slots) v e = absurd (cc)
iterator_on (slot.Cell m ∷ slots) v e = absurd (cc)
iterator_on (slot.Iter w ∷ slots) v e = ap (λ o. slot.Iter o ∷ slots) (let q : w ≡ v = cc in q)
iterator_on (slot.Exc w ∷ slots) v e = absurd (cc)
iterator_on (slot.Pending c ∷ slots) v e = absurd (cc)
iterator_on (slot.With w ∷ slots) v e = absurd (cc)

pub lacks_iterator : (slots : List Slot) → one_iterator slots ≡ None → (next : Next Value Value) → an_iterator (slots_view slots) next ≡ stuck
lacks_iterator [] e next = refl
lacks_iterator (slot.Value v ∷ slots) e next = refl
lacks_iterator (slot.Cell n ∷ slots) e next = refl
lacks_iterator (slot.Iter v ∷ slots) e next = absurd (cc)
lacks_iterator (slot.Exc v ∷ slots) e next = refl
lacks_iterator (slot.Pending c ∷ slots) e next = refl
lacks_iterator (slot.With v ∷ slots) e next = refl

-- no exception is active by an iterator
pub quiet_iterator : (slots : List Slot) (v : Value) → one_iterator slots ≡ Some v → active_in (drop 1 slots) ≡ active_in slots
quiet_iterator slots v e = sym (ap active_in (iterator_on slots v e))

pub quiet_over_iterator : (slots : List Slot) (v : Value) → active_in (slot.Iter v ∷ slots) ≡ active_in slots
quiet_over_iterator slots v = refl

pub quiet_over_item : (slots : List Slot) (it v : Value) → active_in (slot.Value v ∷ (slot.Iter it ∷ slots)) ≡ active_in slots
quiet_over_item slots it v = refl

-- a turn finds the value that stands so many slots down

pub found_down : (n : ℕ) (slots : List Slot) (v : Value) → value_down n slots ≡ Some v → (next : Value → Turn (State Value) Value) → the_value n (slots_view slots) next ≡ next v
found_down zero slots v e next = absurd (cc)
found_down (suc zero) [] v e next = absurd (cc)
found_down (suc zero) (slot.Value w ∷ slots) v e next = ap next (let q : w ≡ v = cc in q)
found_down (suc zero) (slot.Cell m ∷ slots) v e next = absurd (cc)
found_down (suc zero) (slot.Iter w ∷ slots) v e next = absurd (cc)
found_down (suc zero) (slot.Exc w ∷ slots) v e next = absurd (cc)
found_down (suc zero) (slot.Pending c ∷ slots) v e next = absurd (cc)
found_down (suc zero) (slot.With w ∷ slots) v e next = absurd (cc)
found_down (suc (suc n)) [] v e next = absurd (cc)
found_down (suc (suc n)) (s ∷ slots) v e next = found_down (suc n) slots v e next

pub lacks_down : (n : ℕ) (slots : List Slot) → value_down n slots ≡ None → (next : Value → Turn (State Value) Value) → the_value n (slots_view slots) next ≡ stuck
lacks_down zero slots e next = refl
lacks_down (suc zero) [] e next = refl
lacks_down (suc zero) (slot.Value w ∷ slots) e next = absurd (cc)
lacks_down (suc zero) (slot.Cell m ∷ slots) e next = refl
lacks_down (suc zero) (slot.Iter w ∷ slots) e next = refl
lacks_down (suc zero) (slot.Exc w ∷ slots) e next = refl
lacks_down (suc zero) (slot.Pending c ∷ slots) e next = refl
lacks_down (suc zero) (slot.With w ∷ slots) e next = refl
lacks_down (suc (suc n)) [] e next = refl
lacks_down (suc (suc n)) (s ∷ slots) e next = lacks_down (suc n) slots e next
