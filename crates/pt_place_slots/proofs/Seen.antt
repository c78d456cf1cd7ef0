-- What a view and sizes tell of a whole block that fits.
use Rattle.std.proofs.Common.{◌≡◌, ℕ, List, Option, Some, subst}
use Rattle.std.specs.Prelude.{Contains}
use Rattle.pt_instr.specs.Effects.{Kinds}
use Rattle.pt_ranges.specs.Rows.{covers}
use Rattle.pt_code.specs.View.{Ins}
use Rattle.sem_fits.specs.fits.Block.{Block}
use Rattle.sem_fits.specs.fits.Places as P
use Rattle.sem_fits.specs.fits.Places.{Gets}
use Rattle.sem_fits.specs.fits.Fits.{TablesHold}
use Rattle.pt_verify_depths.specs.PlaceTable.{AreSizes, AreSizesUpTo}
use Rattle.pt_block_kinds.specs.Graph.{IsSeen}
use Rattle.pt_block_kinds.proofs.Lists.{in_filter}
use Rattle.pt_common_slots.specs.Common.{RowsLead}
use Rattle.pt_kind_failures.proofs.Laid.{rows_land}

module _ (b : Block) where
  -- a place that gets kinds is one
  pub gotten_stands : {p pc : ℕ} {ks : Kinds} → Gets b p pc ks → (i : Ins) × (b.at pc ≡ Some i)
  gotten_stands (P.start i e) = (i, e)
  gotten_stands (P.onward g l c i e) = (i, e)

  pub all_sizes : (sizes : List (Option ℕ)) → AreSizes b sizes → AreSizesUpTo b b.size sizes
  all_sizes sizes are = record { sound = are.sound; whole = are.whole b.size; agree = are.agree b.size }

  pub rows_lead : (count : ℕ) → IsSeen b count → TablesHold b → RowsLead b
  rows_lead count seen hold pc i e row among none = rows_land b hold row
      (in_filter (λ row. covers row (record { 0 = pc })) b.handlers row (subst (λ rows. Contains rows row) (seen.rows pc i e) among)).0 none
