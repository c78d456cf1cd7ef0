-- Which Leaves each EndFinally lets go on, by the instructions at p and below (Language Reference 8.4.4).
use Rattle.std.specs.Prelude.{◌≡◌, ℕ, ◌-◌, List, length, Option}
use Rattle.pt_instr.specs.declared.Instr.TheVariants.{EndFinally}
use Rattle.pt_instr.specs.Effects.{Kinds}
use Rattle.pt_code.specs.View.{Ins}
use Rattle.sem_fits.specs.fits.Block.{Block}
use Rattle.sem_fits.specs.fits.Places.{Reached}
use Rattle.sem_fits.specs.fits.Leaves.{Holds}
use Rattle.pt_block_limits.specs.Limits.{IsBundled, HasHeld}

-- an EndFinally that is reached lets a Leave for the target go on
pub record LetsGoUpTo (b : Block) (p pc target : ℕ) : Type 0 where
  pub ins : Ins
  pub kinds : Kinds
  pub reached : Reached b p pc ins kinds
  pub ends : ins.instr ≡ EndFinally
  pub holds : Holds b p target pc (length kinds - 1)

pub record HasHeldUpTo (b : Block) (p : ℕ) (bundles : List (List ℕ)) (held : List (Option ℕ)) : Type 0 where
  pub sound : (pc target : ℕ) → IsBundled bundles held pc target → LetsGoUpTo b p pc target
  pub whole : (pc target : ℕ) → LetsGoUpTo b p pc target → IsBundled bundles held pc target

-- of a whole block
abbrev pub AreOfBlock : Block → Type 0
AreOfBlock b = (bundles : List (List ℕ)) (held : List (Option ℕ)) → HasHeldUpTo b b.size bundles held → HasHeld b bundles held
