-- Sizes are the lengths of kinds, so they decide what lengths decide.
use Rattle.std.specs.Prelude.{◌≡◌, ℕ, Contains, false, length}
use Rattle.pt_instr.specs.Effects.{Kinds}
use Rattle.pt_ranges.specs.declared.handlers.Handler.{Handler}
use Rattle.pt_code.specs.View.{Ins}
use Rattle.sem_fits.specs.fits.Block.{Block, effect}
use Rattle.sem_fits.specs.fits.Steps.{has_enough, is_within}
use Rattle.sem_fits.specs.fits.Places.{Gets, Reached}
use Rattle.sem_fits.specs.fits.Agreement.{LengthsMeet}
use Rattle.pt_verify_depths.specs.Sizes.{Sized, SizesMeet, RowTooDeep, Lacks}

-- a place gets kinds of a size
pub record GetsSize (b : Block) (p pc n : ℕ) : Type 0 where
  pub kinds : Kinds
  pub gets : Gets b p pc kinds
  pub long : length kinds ≡ n

abbrev pub KindsHaveSizes : Block → Type 0
KindsHaveSizes b = (p q : ℕ) (ks : Kinds) → Gets b p q ks → Sized b p q (length ks)

abbrev pub SizesHaveKinds : Block → Type 0
SizesHaveKinds b = (p q n : ℕ) → Sized b p q n → GetsSize b p q n

-- two sizes meet at a place exactly where two lengths do
pub record AsLengths (b : Block) (p : ℕ) : Type 0 where
  pub sizes : LengthsMeet b p → SizesMeet b p
  pub lengths : SizesMeet b p → LengthsMeet b p

-- a reached instruction under a row that is too deep for it, and one that lacks what it takes and reads
pub record Deep (b : Block) (p : ℕ) (row : Handler) : Type 0 where
  pub pc : ℕ
  pub ins : Ins
  pub kinds : Kinds
  pub reached : Reached b p pc ins kinds
  pub under : Contains ins.rows row
  pub fails : is_within (effect b.links ins.instr) kinds row ≡ false

pub record Few (b : Block) (p : ℕ) : Type 0 where
  pub pc : ℕ
  pub ins : Ins
  pub kinds : Kinds
  pub reached : Reached b p pc ins kinds
  pub fails : has_enough (effect b.links ins.instr) kinds ≡ false

pub record AsDeep (b : Block) (p : ℕ) (row : Handler) : Type 0 where
  pub sizes : Deep b p row → RowTooDeep b p row
  pub kinds : RowTooDeep b p row → Deep b p row

pub record AsFew (b : Block) (p : ℕ) : Type 0 where
  pub sizes : Few b p → Lacks b p
  pub kinds : Lacks b p → Few b p
