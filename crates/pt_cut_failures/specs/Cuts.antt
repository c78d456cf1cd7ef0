-- What is told of the rows under which cuts differ.
use Rattle.std.specs.Prelude.{◌≡◌, ℕ, ◌+◌, ◌<◌, List, slice_get, Option, Some, None}
use Rattle.pt_ranges.specs.declared.handlers.Handler.{Handler}
use Rattle.sem_fits.specs.fits.Block.{Block}
use Rattle.sem_fits.specs.fits.Fits.{IsLeast}
use Rattle.pt_kind_flow.specs.declared.flow.Flow.{Flow}
use Rattle.pt_block_kinds.specs.Told.{CutsUnder, IsShort}

-- the least of so many handler rows under which cuts differ
abbrev pub TellsCutBelow : Block → (p rows : ℕ) → Option ℕ → Type 0
TellsCutBelow b p rows (Some n) = (n < rows) × IsLeast (CutsUnder b p) n
TellsCutBelow b p rows None = (n : ℕ) → n < rows → CutsUnder b p n → ⊥

-- a row whose vertex has fewer slots than the row leaves
pub record ShortRow (f : Flow) (count : ℕ) (rows : List Handler) (n : ℕ) : Type 0 where
  pub row : Handler
  pub is : slice_get rows n ≡ Some row
  pub short : IsShort f (count + n) row.depth

abbrev pub TellsShortBelow : Flow → (count : ℕ) → List Handler → (asked : ℕ) → Option ℕ → Type 0
TellsShortBelow f count rows asked (Some n) = (n < asked) × IsLeast (ShortRow f count rows) n
TellsShortBelow f count rows asked None = (n : ℕ) → n < asked → ShortRow f count rows n → ⊥
