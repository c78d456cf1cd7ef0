-- The first row of a block's tables that is wrong by places alone.
use Rattle.std.specs.Prelude.{◌≡◌, ℕ, List, Bool, false, slice_get, Option, Some, None}
use Rattle.sem_fits.specs.fits.Block.{Block}
use Rattle.sem_fits.specs.fits.Tables.{RowFails}
use Rattle.sem_fits.specs.fits.Fits.{IsLeast, TablesHold}

abbrev pub IsFalseAt : List Bool → (n : ℕ) → Type 0
IsFalseAt xs n = slice_get xs n ≡ Some false

abbrev pub IsFirstFalse : List Bool → Option ℕ → Type 0
IsFirstFalse xs (Some n) = IsLeast (IsFalseAt xs) n
IsFirstFalse xs None = (n : ℕ) → IsFalseAt xs n → ⊥

-- what an answer tells of a block: its first row that fails, or that its tables hold
abbrev pub TellsRows : Block → Option ℕ → Type 0
TellsRows b (Some n) = IsLeast (RowFails b) n
TellsRows b None = TablesHold b
