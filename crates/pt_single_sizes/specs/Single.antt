-- How many slots places get up to a place, where none gets two numbers.
use Rattle.std.specs.Prelude.{◌≡◌, ℕ, List, [], ◌++◌, if◌then◌else◌, Option, Some}
use Rattle.pt_instr.specs.declared.effects.Effect.{Effect}
use Rattle.pt_sizes.specs.Flow.{entry}
use Rattle.sem_fits.specs.fits.Block.{Block}
use Rattle.pt_verify_depths.specs.Sizes.{SizeStep, Sized, is_enough, gives_onward, gives_aside, gives_again}

-- the table has the sizes of places through the instructions at a place and below
pub record AreSingle (b : Block) (p : ℕ) (sizes : List (Option ℕ)) : Type 0 where
  pub sound : (pc n : ℕ) → entry sizes pc ≡ Some n → Sized b p pc n
  pub whole : (pc n : ℕ) → Sized b p pc n → entry sizes pc ≡ Some n

-- the ways on of an instruction itself
abbrev pub own_steps : Effect → (size pc next : ℕ) → (target : Option ℕ) → List SizeStep
own_steps e n pc next t =
    if is_enough e n
    then gives_onward e n next e.gives ++ (gives_aside e n t e.aside ++ gives_again e n pc)
    else []
