-- What is said of Leaves that leave other kinds than their targets have.
use Rattle.std.specs.Prelude.{◌↔◌, ℕ}
use Rattle.sem_fits.specs.fits.Block.{Block}
use Rattle.pt_verify_depths.specs.PlaceTable.{SizesDisagree}
use Rattle.pt_verify_depths.specs.Refusals.{LeaveLacks}
use Rattle.pt_common_slots.specs.Common.{RowsLead}
use Rattle.pt_refusals.specs.Told.{Clashes, LeaveClashes}
use Rattle.pt_leave_clashes.specs.Others.{LeavesOthers}

-- where nothing else clashes, a Leave clashes just where one does at its own place
abbrev pub ClashAtPlaces : Block → (p : ℕ) → Type 0
ClashAtPlaces b p = (SizesDisagree b p → ⊥) → RowsLead b → (Clashes b p → ⊥)
    → (LeaveLacks b p → ⊥) → LeaveClashes b p ↔ LeavesOthers b p
