-- What laws say of the refusals of a block.
use Rattle.std.specs.Prelude.{◌≡◌, ℕ, zero, suc, ◌+◌, ◌≤◌, length, Contains, Bool, Option, Some, None}
use Rattle.pt_ranges.specs.declared.handlers.Handler.{Handler}
use Rattle.pt_code.specs.declared.CodeBlock.{CodeBlock}
use Rattle.pt_code.specs.declared.Code.{Code}
use Rattle.pt_code.specs.View.{Ins, IsView}
use Rattle.pt_sizes.specs.declared.flow.Sizes.TheVariants as sizes
use Rattle.pt_cycles.specs.declared.cycles.Cycles.{Cycles}
use Rattle.sem_fits.specs.fits.Block.{Block, block_of}
use Rattle.sem_fits.specs.fits.Agreement.{Agrees}
use Rattle.sem_fits.specs.fits.Fits.{Disagrees, Fits, Misfit, Refused, RefusedAt, TablesHold}
use Rattle.pt_verify_depths.specs.PlaceTable.{TellsSizes}
use Rattle.pt_block_limits.specs.Limits.{TellsDepth, TellsLoops}
use Rattle.pt_block_limits.specs.Lost.{TellsLost}
use Rattle.pt_verify_depths.specs.Refusals.{CutsOf}
use Rattle.pt_refusals.specs.declared.failures.Failures.{Failures}
use Rattle.pt_refusals.specs.declared.failures.Failures.TheVariants as failures
use Rattle.pt_refusals.specs.Told.{TellsFailures, TellsLeast, TellsLeastBelow}
use Rattle.pt_refusals.specs.Verdicts.{refusal_at, refusal_behind}

-- the refusal at a place, or that the block agrees up to it
abbrev pub TellsPlace : Block → (p : ℕ) → Option Misfit → Type 0
TellsPlace b p (Some m) = RefusedAt b p m
TellsPlace b p None = Agrees b p

-- the refusal of a block, or that it fits
abbrev pub TellsBlock : Block → Option Misfit → Type 0
TellsBlock b (Some m) = Refused b m
TellsBlock b None = Fits b

-- the handler rows over a place are rows of the block
abbrev pub ListsRows : Block → Type 0
ListsRows b = (pc : ℕ) (i : Ins) → b.at pc ≡ Some i → (row : Handler) → Contains i.rows row
    → Contains b.handlers row

abbrev pub BlocksListRows : Type 0
BlocksListRows = (c : Code) (b : CodeBlock) (view : ℕ → Option Ins) → IsView b view
    → ListsRows (block_of c b view)

abbrev pub PlacesAreTold : Block → Type 0
PlacesAreTold b = ListsRows b → (p : ℕ) (f : Failures) → TellsFailures b p f
    → TellsPlace b p (refusal_at p f)

-- what sizes tell of a place up to which they disagree first, with the rows whose cuts differ there
pub record SizesTellFailures (b : Block) : Type 0 where
  pub meet : (p : ℕ) → TellsSizes b (sizes.Meet p) → TellsFailures b p failures.Meet
  pub deep : (p n : ℕ) → TellsSizes b (sizes.TooDeep p n) → (cuts : Option ℕ)
      → TellsLeastBelow (CutsOf b p) (length b.marks + n) cuts
      → TellsFailures b p (failures.TooDeep (length b.marks + n) cuts)
  pub few : (p : ℕ) → TellsSizes b (sizes.TooFew p) → (cuts : Option ℕ)
      → TellsLeast (CutsOf b p) cuts → TellsFailures b p (failures.TooFew cuts)

abbrev pub DisagreementStays : Block → Type 0
DisagreementStays b = (p q : ℕ) → p ≤ q → Disagrees b p → Disagrees b q

-- nothing fails before the first place; before another one nothing does up to which it agrees
abbrev pub AgreesBefore : Block → (p : ℕ) → Type 0
AgreesBefore b zero = Unit {0}
AgreesBefore b (suc p) = Agrees b p

abbrev pub FirstPlaceRefuses : Block → Type 0
FirstPlaceRefuses b = TablesHold b → (p : ℕ) → AgreesBefore b p → (m : Misfit) → RefusedAt b p m
    → Refused b m

-- where its tables hold, the refusal of a block, or that it agrees up to a place
abbrev pub TellsFirst : Block → (last : ℕ) → Option Misfit → Type 0
TellsFirst b last (Some m) = TablesHold b → Refused b m
TellsFirst b last None = Agrees b last

-- while the first place is sought that refuses: the block agrees before a place, and another one
-- refuses
pub record FirstSearch (b : Block) (low high : ℕ) (m : Misfit) : Type 0 where
  pub agrees : AgreesBefore b low
  pub refuses : RefusedAt b high m

abbrev pub AgreeingBlocksAreTold : Block → Type 0
AgreeingBlocksAreTold b = TablesHold b → Agrees b b.size → (lost : Option ℕ) → TellsLost b lost
    → (deep : Bool) → TellsDepth b deep → (loops : Cycles) → TellsLoops b loops
    → TellsBlock b (refusal_behind lost deep loops)
