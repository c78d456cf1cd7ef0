-- Constants, and values that are dropped.
use Rattle.std.proofs.Common.{◌≡◌, ◌∙◌, List, ◌∷◌, Option, Some, None, refl, ap}
use Rattle.std.specs.Prelude.{drop, MatchOption}
use Rattle.pt_base.specs.declared.numbers.Pc.{Pc}
use Rattle.pt_instr.specs.declared.Instr.{Instr}
use Rattle.pt_instr.specs.declared.Instr.TheVariants as instr
use Rattle.pt_heap.specs.declared.value.Value.{Value}
use Rattle.pt_heap.specs.declared.object.Object.{Object}
use Rattle.pt_frames.specs.declared.slot.Slot.{Slot}
use Rattle.pt_frames.specs.declared.slot.Slot.TheVariants as slot
use Rattle.pt_frames.specs.Slots.{active_in}
use Rattle.pt_name_rows.specs.pt_builtins.pt_host.World.{with_objects}
use Rattle.pt_operators.specs.pt_moves.sem_rows.declared.heap_rows.progress.Progress.{Progress}
use Rattle.pt_operators.specs.pt_moves.sem_rows.declared.heap_rows.progress.Progress.TheVariants as progress
use Rattle.pt_operators.specs.pt_moves.Operands.{one_value, RowsSlots, RowsHeap}
use Rattle.pt_operators.proofs.pt_moves.TakeLemmas.{quiet_one}
use Rattle.pt_operators.proofs.pt_moves.MoveLemmas.{pop_row, return_row}
use Rattle.pt_operators.proofs.pt_moves.ConstantLemmas.{constant_row}
use Rattle.pt_fast_rows.specs.FastPaths.{FastConstant, FastReturn, FastRow, Led}

-- the place behind is next
pub at_next : {done : Progress → Type 0} (next : Pc) → done progress.Next → Led next next done
at_next next row = record { progress = progress.Next; to = refl; row = row }

-- a row that changes slots alone
pub of_slots : (j : Instr) (p : Progress) (old new : List Slot) → RowsSlots j old p new → (heap : List Object) → RowsHeap j old heap p new heap
unfolding RowsSlots RowsHeap
of_slots j p old new row heap program code pc i h st known = row program code pc i h (with_objects heap st) known

pub constant_given : (v : Value) (next : Pc) (old new : List Slot) → new ≡ slot.Value v ∷ old → Led next next (λ p. FastConstant v p old new)
constant_given v next old new e = at_next next (constant_row v old new e, ap active_in e)

-- what was taken off, or left
abbrev pub Taken : Option Value → (old new : List Slot) → Type 0
Taken o old new = MatchOption o (new ≡ old) (λ v. (one_value old ≡ Some v) × (new ≡ drop 1 old))

pub popped_one : (o : Option Value) (v : Value) (next : Pc) (old new : List Slot) → Taken o old new → o ≡ Some v
    → Led next next (λ p. FastRow instr.Pop p old new)
popped_one (Some w) v next old new t e = at_next next (
  of_slots instr.Pop progress.Next old new (pop_row old new w t.0 t.1),
  ap active_in t.1 ∙ quiet_one old w t.0,
)
popped_one None v next old new t e = absurd (cc)

pub none_popped : (o : Option Value) (old new : List Slot) → Taken o old new → o ≡ None → new ≡ old
none_popped (Some w) old new t e = absurd (cc)
none_popped None old new t e = t

pub returned_one : (o : Option Value) (old new : List Slot) → Taken o old new → MatchOption o (new ≡ old) (λ v. FastReturn v old new)
returned_one (Some v) old new t = (return_row old new v t.0 t.1, ap active_in t.1 ∙ quiet_one old v t.0)
returned_one None old new t = t
