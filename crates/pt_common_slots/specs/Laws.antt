-- What is said of slots in common.
use Rattle.std.specs.Prelude.{◌≡◌, ◌↔◌, ℕ, List}
use Rattle.sem_fits.specs.fits.Block.{Block}
use Rattle.sem_fits.specs.fits.Leaves.{Common}
use Rattle.pt_verify_depths.specs.PlaceTable.{SizesDisagree}
use Rattle.pt_joins.specs.declared.joins.Node.{Node}
use Rattle.pt_joins.specs.Joins.{Root}
use Rattle.pt_common_slots.specs.Common.{IsKept, RowsLead, TellsCommon}

-- where an EndFinally lets a Leave go on, nothing is in common that other steps don't keep
abbrev pub SharedBySteps : Block → (p : ℕ) → Type 0
SharedBySteps b p = (SizesDisagree b p → ⊥) → RowsLead b → (slot q r : ℕ)
    → Common b p slot q r ↔ IsKept b p slot q r

-- a slot has one number at two places just where it is in common
abbrev pub HaveOneNumber : Block → (p : ℕ) → Type 0
HaveOneNumber b p = (nodes : List Node) → TellsCommon b p nodes → (slot q r i j : ℕ)
    → Root nodes slot q i → Root nodes slot r j → (i ≡ j) ↔ Common b p slot q r
