-- Rows of branches at truth values.
use Rattle.std.proofs.Common.{◌≡◌, ◌∙◌, Bool, true, false, List, [], ◌∷◌, Option, Some, None, refl, ap}
use Rattle.std.specs.Prelude.{drop, slice_get, MatchOption}
use Rattle.pt_base.specs.declared.numbers.Pc.{Pc}
use Rattle.pt_instr.specs.declared.Instr.TheVariants as instr
use Rattle.pt_heap.specs.declared.value.Value.TheVariants as value
use Rattle.pt_frames.specs.declared.slot.Slot.{Slot}
use Rattle.pt_frames.specs.declared.slot.Slot.TheVariants as slot
use Rattle.pt_frames.specs.Slots.{active_in}
use Rattle.pt_operators.specs.pt_moves.sem_rows.declared.heap_rows.progress.Progress.TheVariants as progress
use Rattle.pt_operators.specs.pt_moves.Operands.{one_value}
use Rattle.pt_operators.proofs.pt_moves.TakeLemmas.{quiet_one}
use Rattle.pt_operators.proofs.pt_moves.BranchLemmas.{jump_if_known, jump_unless_known}
use Rattle.pt_fast_rows.specs.FastPaths.{FastRow, Led, truth_in}
use Rattle.pt_fast_rows.proofs.ValueLemmas.{at_next}

pub one_there : (slots : List Slot) (b : Bool) → truth_in (slice_get slots 0) ≡ Some b → one_value slots ≡ Some (value.Bool b)
one_there [] b e = absurd (cc)
one_there (slot.Value (value.Bool c) ∷ slots) b e = let same : c ≡ b = cc in ap (λ t. Some (value.Bool t)) same
one_there (slot.Value value.None ∷ slots) b e = absurd (cc)
one_there (slot.Value (value.Int n) ∷ slots) b e = absurd (cc)
one_there (slot.Value value.Ellipsis ∷ slots) b e = absurd (cc)
one_there (slot.Value value.NotImplemented ∷ slots) b e = absurd (cc)
one_there (slot.Value (value.Obj id) ∷ slots) b e = absurd (cc)
one_there (slot.Cell n ∷ slots) b e = absurd (cc)
one_there (slot.Iter v ∷ slots) b e = absurd (cc)
one_there (slot.Exc v ∷ slots) b e = absurd (cc)
one_there (slot.Pending c ∷ slots) b e = absurd (cc)
one_there (slot.With v ∷ slots) b e = absurd (cc)

abbrev pub Taken : Option Bool → (old new : List Slot) → Type 0
Taken o old new = MatchOption o (new ≡ old) (λ b. (one_value old ≡ Some (value.Bool b)) × (new ≡ drop 1 old))

pub no_truth : (o : Option Bool) (old new : List Slot) → Taken o old new → o ≡ None → new ≡ old
no_truth (Some b) old new t e = absurd (cc)
no_truth None old new t e = t

module _ (to next : Pc) (old new : List Slot) where
  if_true : Taken (Some true) old new → FastRow (instr.JumpIf to) (progress.Goto to) old new
  if_true t = (λ heap. jump_if_known to true old new heap t.0 t.1, ap active_in t.1 ∙ quiet_one old _ t.0)

  if_false : Taken (Some false) old new → FastRow (instr.JumpIf to) progress.Next old new
  if_false t = (λ heap. jump_if_known to false old new heap t.0 t.1, ap active_in t.1 ∙ quiet_one old _ t.0)

  unless_true : Taken (Some true) old new → FastRow (instr.JumpUnless to) progress.Next old new
  unless_true t = (λ heap. jump_unless_known to true old new heap t.0 t.1, ap active_in t.1 ∙ quiet_one old _ t.0)

  unless_false : Taken (Some false) old new → FastRow (instr.JumpUnless to) (progress.Goto to) old new
  unless_false t = (λ heap. jump_unless_known to false old new heap t.0 t.1, ap active_in t.1 ∙ quiet_one old _ t.0)

  pub jumped_if : (o : Option Bool) → Taken o old new → o ≡ Some true → Led next to (λ p. FastRow (instr.JumpIf to) p old new)
  jumped_if (Some true) t e = record { progress = progress.Goto to; to = refl; row = if_true t }
  jumped_if (Some false) t e = absurd (cc)
  jumped_if None t e = absurd (cc)

  pub passed_if : (o : Option Bool) → Taken o old new → o ≡ Some false → Led next next (λ p. FastRow (instr.JumpIf to) p old new)
  passed_if (Some true) t e = absurd (cc)
  passed_if (Some false) t e = at_next next (if_false t)
  passed_if None t e = absurd (cc)

  pub jumped_unless : (o : Option Bool) → Taken o old new → o ≡ Some false → Led next to (λ p. FastRow (instr.JumpUnless to) p old new)
  jumped_unless (Some true) t e = absurd (cc)
  jumped_unless (Some false) t e = record { progress = progress.Goto to; to = refl; row = unless_false t }
  jumped_unless None t e = absurd (cc)

  pub passed_unless : (o : Option Bool) → Taken o old new → o ≡ Some true → Led next next (λ p. FastRow (instr.JumpUnless to) p old new)
  passed_unless (Some true) t e = at_next next (unless_true t)
  passed_unless (Some false) t e = absurd (cc)
  passed_unless None t e = absurd (cc)
