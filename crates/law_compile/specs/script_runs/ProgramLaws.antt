-- What the law says of the code of a script over a prelude beside both.
use Rattle.std.specs.Prelude.{◌≡◌, ℕ, Bool, true, false, slice_get, Some}
use Rattle.pt_tree.specs.Syntax.{Stms}
use Rattle.pt_tree.specs.Blocks.{Block, blocks_script, yields}
use Rattle.sem_code.specs.slots.CodeObject.{CodeObject}
use Rattle.sem_run.specs.run.Host.{Host}
use Rattle.pt_bare_runs.specs.Laws.{NeverStuck, OpensOnly}
use Rattle.pt_bare_code.specs.Turns.{HaveTheSameBareRuns, WritesNothingElse}
use Rattle.law_compile.specs.script_runs.Blocks.{the_module}
use Rattle.law_compile.specs.script_runs.Laws.{AreItsObjects}
use Rattle.law_compile.specs.script_runs.ProgramBlocks.{program_machine, program_code_machine, text_of}

-- code objects of the blocks of both
pub record AreObjectsOfBoth {V : Type 0} (null : V) (prelude ss : Stms) (object : (hidden : Bool) → ℕ → CodeObject V) : Type 0 where
  pub of_prelude : AreItsObjects null prelude (object true)
  pub of_script : AreItsObjects null ss (object false)

-- no block of either gives a value on
abbrev pub GiveNothingOn : Stms → Type 0
GiveNothingOn ss = (k : ℕ) (block : Block) → slice_get (blocks_script ss) k ≡ Some block → yields block.code ≡ false

module _ (N V W : Type 0) where
  -- the code has the bare runs of both
  abbrev pub ProgramHasItsBareRuns : Type 0
  ProgramHasItsBareRuns = (null : V) (prelude ss : Stms) (object : (hidden : Bool) → ℕ → CodeObject V) → AreObjectsOfBoth null prelude ss object
      → (host : Host N V W) (n : ℕ) (names : N) (world : W)
      → HaveTheSameBareRuns (program_machine null prelude ss) (program_code_machine prelude ss object) host n the_module names world

  -- also where it comes to no outcome, they write first what it writes first
  abbrev pub ProgramCodeWritesNothingElse : Type 0
  ProgramCodeWritesNothingElse = (null : V) (prelude ss : Stms) (object : (hidden : Bool) → ℕ → CodeObject V) → AreObjectsOfBoth null prelude ss object
      → (host : Host N V W) (n : ℕ) (names : N) (world : W)
      → WritesNothingElse (program_machine null prelude ss) (program_code_machine prelude ss object) host n the_module names world

  -- it is never stuck where no block gives a value on, over a host that requests nothing but that blocks run
  abbrev pub ProgramCodeIsNeverStuck : Type 0
  ProgramCodeIsNeverStuck = (null : V) (prelude ss : Stms) (object : (hidden : Bool) → ℕ → CodeObject V) → AreObjectsOfBoth null prelude ss object
      → GiveNothingOn prelude → GiveNothingOn ss → (host : Host N V W) → OpensOnly host → (n : ℕ) (names : N) (world : W)
      → NeverStuck (program_code_machine prelude ss object) host n the_module names world
