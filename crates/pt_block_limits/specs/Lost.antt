-- The least Leave that comes to nothing (Language Reference 7.9, 7.10).
use Rattle.std.specs.Prelude.{ℕ, List, Bool, false, not, is_some, Option, Some, None}
use Rattle.pt_instr.specs.declared.Instr.{Instr}
use Rattle.pt_instr.specs.declared.Instr.TheVariants.{Leave}
use Rattle.pt_places.specs.declared.places.Place.{Place}
use Rattle.pt_sizes.specs.Flow.{entry}
use Rattle.sem_fits.specs.fits.Block.{Block}
use Rattle.sem_fits.specs.fits.Fits.{AllArrive, IsLeast, IsLost}

abbrev pub leave_of : Instr → Option ℕ
leave_of (Leave t) = Some t.0
leave_of i = None

-- where the instruction at a place leaves a loop to
abbrev pub left_to : Option Place → Option ℕ
left_to (Some p) = leave_of p.instr
left_to None = None

-- a place has a size and its target has none
abbrev pub is_lost : List (Option ℕ) → (size target : Option ℕ) → Bool
is_lost sizes (Some n) (Some t) = not (is_some (entry sizes t))
is_lost sizes size target = false

-- the least Leave whose target gets no kinds, or that each arrives
abbrev pub TellsLost : Block → Option ℕ → Type 0
TellsLost b (Some pc) = IsLeast (IsLost b) pc
TellsLost b None = AllArrive b
