-- What slots hold, where what is in common is known: Leaves go from slot to slot by the rows that take them and the Exits that hand them on.
use Rattle.std.specs.Prelude.{◌≡◌, ◌↔◌, ℕ, ◌-◌, length, Some}
use Rattle.pt_instr.specs.declared.Instr.TheVariants.{Leave, EndFinally, Exit}
use Rattle.pt_instr.specs.Effects.{Kinds}
use Rattle.pt_ranges.specs.declared.handlers.Handler.{Handler}
use Rattle.pt_code.specs.View.{Ins}
use Rattle.sem_fits.specs.fits.Block.{Block}
use Rattle.sem_fits.specs.fits.Places.{Reached}
use Rattle.sem_fits.specs.fits.Leaves.{Holds, taker}
use Rattle.pt_verify_depths.specs.PlaceTable.{SizesDisagree}
use Rattle.pt_common_slots.specs.Common.{IsKept, RowsLead}

-- a slot may hold a Leave for this target
pub data HoldsBySteps (b : Block) (p target : ℕ) : (pc slot : ℕ) → Type 0 where
  -- an always row takes it from its own place
  taken : {q : ℕ} {i : Ins} {ks : Kinds} → Reached b p q i ks
      → i.instr ≡ Leave (record { 0 = target }) → (row : Handler) → taker i.rows target ≡ Some row
      → HoldsBySteps b p target row.target.0 row.depth
  -- or from an EndFinally that lets it go on
  passed : {q : ℕ} {i : Ins} {ks : Kinds} → Reached b p q i ks → i.instr ≡ EndFinally
      → HoldsBySteps b p target q (length ks - 1) → (row : Handler) → taker i.rows target ≡ Some row
      → HoldsBySteps b p target row.target.0 row.depth
  exited : {q : ℕ} {i : Ins} {ks : Kinds} → Reached b p q i ks → i.instr ≡ Exit
      → HoldsBySteps b p target q (length ks - 1) → HoldsBySteps b p target i.next (length ks - 2)
  shared : {q r d : ℕ} → IsKept b p d q r → HoldsBySteps b p target q d → HoldsBySteps b p target r d

abbrev pub HeldByClasses : Block → (p : ℕ) → Type 0
HeldByClasses b p = (SizesDisagree b p → ⊥) → RowsLead b → (target pc slot : ℕ)
    → Holds b p target pc slot ↔ HoldsBySteps b p target pc slot
