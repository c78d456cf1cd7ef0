-- When a run of code is never stuck since its blocks fit.
use Rattle.std.specs.Prelude.{◌≡◌, ℕ, false, Option}
use Rattle.sem_fits.specs.fits.Block.{Block}
use Rattle.sem_fits.specs.fits.Standing.{may_yield}
use Rattle.sem_fits.specs.fits.Fits.{Fits}
use Rattle.sem_fits.specs.fits.Laws.{Runs, Starts}
use Rattle.sem_run.specs.run.Machine.{BlockId}
use Rattle.sem_run.specs.run.Host.{Host}
use Rattle.pt_bare_runs.specs.Laws.{NeverStuck, OpensOnly}
use Rattle.sem_code_machine.specs.code_machine.CodeBlocks.{CodeBlocks, machine, start_of}

-- each code object runs a block that fits and begins with an instruction, and in none of them a value may be given on
pub record AreFitting {V : Type 0} (code : CodeBlocks V) (blocks : BlockId → Block) : Type 0 where
  pub runs : (b : BlockId) → Runs (code.object b) (blocks b)
  pub fits : (b : BlockId) → Fits (blocks b)
  pub starts : (b : BlockId) (iterator : Option V) → Starts (blocks b) (start_of code b iterator)
  pub gives_nothing_on : (b : BlockId) → may_yield (blocks b).kind ≡ false

abbrev pub CodeThatFitsRunsOn : (V N W : Type 0) → Type 0
CodeThatFitsRunsOn V N W =
    (code : CodeBlocks V) (blocks : BlockId → Block) → AreFitting code blocks → (host : Host N V W) → OpensOnly host
    → (n : ℕ) (b : BlockId) (names : N) (world : W) → NeverStuck (machine code) host n b names world
