-- What the flow of a block's graph tells of how the block fails.
use Rattle.std.specs.Prelude.{◌≡◌, ℕ, ◌+◌, ◌<◌, List, length, slice_get, false, Option, Some, None}
use Rattle.pt_instr.specs.Effects.{Kinds}
use Rattle.pt_ranges.specs.declared.handlers.Handler.{Handler}
use Rattle.pt_sizes.specs.Flow.{entry}
use Rattle.sem_fits.specs.fits.Block.{Block}
use Rattle.sem_fits.specs.fits.Steps.{are_kinds}
use Rattle.sem_fits.specs.fits.Places.{Gets}
use Rattle.sem_fits.specs.fits.Fits.{IsLeast}
use Rattle.pt_verify_depths.specs.Refusals.{CutsOf}
use Rattle.pt_kind_flow.specs.declared.flow.Flow.{Flow}
use Rattle.pt_kind_flow.specs.Flow.{told}
use Rattle.pt_block_kinds.specs.declared.graph.BlockKinds.{BlockKinds}

-- the lists that come to a vertex have fewer slots in common
pub record IsShort (f : Flow) (vertex count : ℕ) : Type 0 where
  pub kinds : Kinds
  pub is : told f vertex ≡ Some kinds
  pub fewer : length kinds < count

pub record ShortRow (kinds : BlockKinds) (rows : List Handler) (n : ℕ) : Type 0 where
  pub row : Handler
  pub is : slice_get rows n ≡ Some row
  pub short : IsShort kinds.flow (kinds.rows_from + n) row.depth

abbrev pub TellsShortRow : BlockKinds → List Handler → Option ℕ → Type 0
TellsShortRow kinds rows (Some n) = IsLeast (ShortRow kinds rows) n
TellsShortRow kinds rows None = (n : ℕ) → ShortRow kinds rows n → ⊥

pub record ShortAt (f : Flow) (sizes : List (Option ℕ)) (pc : ℕ) : Type 0 where
  pub size : ℕ
  pub has : entry sizes pc ≡ Some size
  pub short : IsShort f pc size

pub record ShortPlace (f : Flow) (sizes : List (Option ℕ)) : Type 0 where
  pub pc : ℕ
  pub here : ShortAt f sizes pc

-- the cuts differ under a row, counted among the handler rows
abbrev pub CutsUnder : Block → (p n : ℕ) → Type 0
CutsUnder b p n = CutsOf b p (length b.marks + n)

-- the first row under which cuts differ
abbrev pub TellsCut : Block → (p : ℕ) → Option ℕ → Type 0
TellsCut b p (Some n) = IsLeast (CutsUnder b p) n
TellsCut b p None = (n : ℕ) → CutsUnder b p n → ⊥

-- a place gets two lists
pub data TwoMeet (b : Block) (p : ℕ) : Type 0 where
  two : {q : ℕ} {ks ls : Kinds} → Gets b p q ks → Gets b p q ls → are_kinds ks ls ≡ false
      → TwoMeet b p

-- the one list of kinds that a place gets, or that it gets none
abbrev pub TellsListAt : Block → (p pc : ℕ) → Option Kinds → Type 0
TellsListAt b p pc (Some ks) = Gets b p pc ks × ((ls : Kinds) → Gets b p pc ls → ls ≡ ks)
TellsListAt b p pc None = (ks : Kinds) → Gets b p pc ks → ⊥
