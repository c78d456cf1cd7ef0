-- What is known of a block while its first refusal is sought.
use Rattle.std.specs.Prelude.{◌≡◌, ℕ, ◌+◌, length, nat_eq, if◌then◌else◌, Option, Some, None}
use Rattle.pt_code.specs.View.{Ins, IsView}
use Rattle.pt_places.specs.PlaceTable.{HasPlaces}
use Rattle.pt_sizes.specs.declared.flow.Sizes.{Sizes}
use Rattle.pt_sizes.specs.declared.flow.Sizes.TheVariants as sizes
use Rattle.sem_fits.specs.fits.Block.{Block, block_of}
use Rattle.sem_fits.specs.fits.Agreement.{Agrees}
use Rattle.sem_fits.specs.fits.Fits.{TablesHold}
use Rattle.pt_verify_depths.specs.PlaceTable.{TellsSizes}
use Rattle.pt_standing.specs.Names.{TellsDefaults}
use Rattle.pt_takers.specs.Takers.{TellsTakers}
use Rattle.pt_step_graph.specs.Graph.{bundles_of}
use Rattle.pt_verify_leaves.specs.Held.{HasHeldUpTo}
use Rattle.pt_refusals.specs.Told.{TellsFailures}
use Rattle.pt_verify.specs.declared.probe.Answer.{Answer}
use Rattle.pt_verify.specs.declared.probe.BlockProbe.{BlockProbe}
use Rattle.pt_verify.specs.declared.probe.Disagreement.{Disagreement}
use Rattle.pt_verify.specs.declared.probe.Disagreement.TheVariants.{Meet, TooDeep, TooFew}

-- how numbers of slots disagree at a place, where that is the first
abbrev pub disagreement_at : (place : ℕ) → Sizes → Option Disagreement
disagreement_at p (sizes.Agree table) = None
disagreement_at p (sizes.Meet q) = if nat_eq p q then Some Meet else None
disagreement_at p (sizes.TooDeep q n) = if nat_eq p q then Some (TooDeep n) else None
disagreement_at p (sizes.TooFew q) = if nat_eq p q then Some TooFew else None

abbrev pub last_of : Sizes → (size : ℕ) → ℕ
last_of (sizes.Agree table) size = size
last_of (sizes.Meet q) size = q
last_of (sizes.TooDeep q n) size = q
last_of (sizes.TooFew q) size = q

-- all that was made is of this block, whose tables hold
pub record TellsOf (probe : BlockProbe) (b : Block) : Type 0 where
  pub view : ℕ → Option Ins
  pub seen : IsView probe.block.now view
  pub same : b ≡ block_of probe.code.now probe.block.now view
  pub places : HasPlaces view probe.places.now
  pub defaults : TellsDefaults probe.code.now probe.defaults.now
  pub takers : TellsTakers probe.block.now.handlers (length probe.block.now.instructions + 1) probe.takers.now
  pub tables : TablesHold b
  pub sizes : TellsSizes b probe.sizes.now

-- how it fails up to a place, and if it doesn't, which Leaves each EndFinally lets go on
pub record TellsAnswer (b : Block) (p : ℕ) (answer : Answer) : Type 0 where
  pub failures : TellsFailures b p answer.failures
  pub held : Agrees b p → HasHeldUpTo b p (bundles_of answer.held.bundles) answer.held.held.items
