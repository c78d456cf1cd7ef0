-- What slots hold is found over what is in common by plain steps.
use Rattle.std.proofs.Common.{ℕ}
use Rattle.sem_fits.specs.fits.Block.{Block}
use Rattle.sem_fits.specs.fits.Leaves as L
use Rattle.sem_fits.specs.fits.Leaves.{Holds}
use Rattle.pt_verify_depths.specs.PlaceTable.{SizesDisagree}
use Rattle.pt_common_slots.specs.Common.{RowsLead}
use Rattle.pt_common_slots.specs.Held.{HoldsBySteps, HeldByClasses, taken, passed, exited, shared}
use Rattle.pt_common_slots.proofs.Law.{common_kept, kept_common}

module _ (b : Block) (p : ℕ) (agree : SizesDisagree b p → ⊥) (lead : RowsLead b) where
  holds_held : (t q d : ℕ) → Holds b p t q d → HoldsBySteps b p t q d
  holds_held t _ _ (L.caught (L.leaves reached is) row f) = taken reached is row f
  holds_held t _ _ (L.caught (L.let_go reached is h) row f) = passed reached is (holds_held t _ _ h) row f
  holds_held t _ _ (L.exited reached is h) = exited reached is (holds_held t _ _ h)
  holds_held t r d (L.shared c h) = shared (common_kept b p agree lead c) (holds_held t _ d h)

  held_holds : (t q d : ℕ) → HoldsBySteps b p t q d → Holds b p t q d
  held_holds t _ _ (taken reached is row f) = L.caught (L.leaves reached is) row f
  held_holds t _ _ (passed reached is h row f) = L.caught (L.let_go reached is (held_holds t _ _ h)) row f
  held_holds t _ _ (exited reached is h) = L.exited reached is (held_holds t _ _ h)
  held_holds t r d (shared {q = q} k h) = L.shared (kept_common b p d q r k) (held_holds t q d h)

pub by_classes : (b : Block) (p : ℕ) → HeldByClasses b p
by_classes b p agree lead t q d = ((λ h. holds_held b p agree lead t q d h), (λ h. held_holds b p agree lead t q d h))
