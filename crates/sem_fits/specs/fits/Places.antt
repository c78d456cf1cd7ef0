-- Which kinds of slots a place gets: the least relation that the ways on of instructions make (as data flow in a verifier of bytecode).
use Rattle.std.specs.Prelude.{◌≡◌, ℕ, ◌≤◌, Contains, Some}
use Rattle.pt_instr.specs.Effects.{Kinds}
use Rattle.pt_code.specs.View.{Ins}
use Rattle.sem_fits.specs.fits.Block.{Block, kinds_at_start}
use Rattle.sem_fits.specs.fits.Steps.{step, steps}

-- a place is where an instruction starts; these are the kinds that it gets through the instructions at p and below
pub data Gets (b : Block) (p : ℕ) : (pc : ℕ) → Kinds → Type 0 where
  start : (j : Ins) → b.at 0 ≡ Some j → Gets b p 0 (kinds_at_start b.kind)
  onward : {q r kept : ℕ} {ks ls : Kinds} → Gets b p q ks → q ≤ p → Contains (steps b q ks) (step r ls kept) → (j : Ins) → b.at r ≡ Some j → Gets b p r ls

-- an instruction at p or below whose place gets these kinds
pub record Reached (b : Block) (p pc : ℕ) (i : Ins) (ks : Kinds) : Type 0 where
  pub gets : Gets b p pc ks
  pub low : pc ≤ p
  pub stands : b.at pc ≡ Some i
