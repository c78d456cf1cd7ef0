-- An instruction that may not stand where it is reached.
use Rattle.std.specs.Prelude.{◌≡◌, ℕ, Bool, not, false, Option, Some}
use Rattle.pt_instr.specs.Effects.{Kinds}
use Rattle.pt_code.specs.View.{Ins}
use Rattle.pt_code.specs.declared.BlockKind.{BlockKind}
use Rattle.pt_places.specs.declared.places.Place.{Place}
use Rattle.sem_fits.specs.fits.Block.{Block, Links}
use Rattle.sem_fits.specs.fits.Places.{Reached}
use Rattle.sem_fits.specs.fits.Standing.{may_stand}

-- an instruction that is reached may not stand in the block
pub record Misplaced (b : Block) (p : ℕ) : Type 0 where
  pub pc : ℕ
  pub ins : Ins
  pub kinds : Kinds
  pub reached : Reached b p pc ins kinds
  pub fails : may_stand b.kind b.links ins.instr ≡ false

-- a place that has a size has an instruction that may not stand there
abbrev pub is_misplaced : BlockKind → Links → Option Place → (size : Option ℕ) → Bool
is_misplaced kind links (Some p) (Some n) = not (may_stand kind links p.instr)
is_misplaced kind links p size = false
