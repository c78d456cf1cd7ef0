-- The blocks of a script over a prelude, as control and as code see them: hidden blocks are those of the prelude.
use Rattle.std.specs.Prelude.{ℕ, Bool, if◌then◌else◌}
use Rattle.pt_tree.specs.Syntax.{Stms}
use Rattle.sem_code.specs.slots.CodeObject.{CodeObject}
use Rattle.sem_code.specs.slots.Slots.{State}
use Rattle.sem_run.specs.run.Machine.{BlockId, Machine}
use Rattle.sem_run.specs.run.Source as control
use Rattle.sem_run.specs.run.Source.{Source}
use Rattle.sem_code_machine.specs.code_machine.CodeBlocks as coded
use Rattle.sem_code_machine.specs.code_machine.CodeBlocks.{CodeBlocks}
use Rattle.law_compile.specs.script_runs.Blocks.{script_code, script_trees}

module _ (prelude ss : Stms) where
  abbrev pub text_of : (hidden : Bool) → Stms
  text_of hidden = if hidden then prelude else ss

  -- the trees of the blocks, and what control knows around them
  abbrev pub program_trees : {V : Type 0} → (null : V) → Source V
  program_trees null = record {
    code = λ b. (script_trees (text_of b.hidden) null).code b;
    around = λ b. (script_trees (text_of b.hidden) null).around b;
  }

  -- the blocks in code, by an object for each
  abbrev pub program_code : {V : Type 0} → (object : (hidden : Bool) → ℕ → CodeObject V) → CodeBlocks V
  program_code object = record {
    object = λ b. (script_code (text_of b.hidden) (object b.hidden)).object b;
    iterates = λ b. (script_code (text_of b.hidden) (object b.hidden)).iterates b;
  }

-- the machines of its runs
abbrev pub program_machine : {V : Type 0} → (null : V) → (prelude ss : Stms) → Machine (control.Position V) V
program_machine null prelude ss = control.machine (program_trees prelude ss null)

abbrev pub program_code_machine : {V : Type 0} → (prelude ss : Stms) → (object : (hidden : Bool) → ℕ → CodeObject V) → Machine (State V) V
program_code_machine prelude ss object = coded.machine (program_code prelude ss object)
