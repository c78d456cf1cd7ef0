-- What laws say of bare runs of code objects, beside the runs of that code.
use Rattle.std.specs.Prelude.{ℕ, List, Option}
use Rattle.pt_code.specs.declared.CodeBlock.{CodeBlock}
use Rattle.sem_run.specs.run.Host.{Host}
use Rattle.sem_run.specs.run.Machine.{BlockId}
use Rattle.sem_run.specs.run.Run.{Write}
use Rattle.sem_run.specs.run.Shown.{Outcome, RunsTo, WritesFirst}
use Rattle.pt_bare_runs.specs.Strides as bare
use Rattle.pt_bare_writes.specs.Fronts.{RunWritesFirst}
use Rattle.sem_code_machine.specs.code_machine.CodeBlocks as objects
use Rattle.sem_code_machine.specs.code_machine.CodeBlocks.{CodeBlocks}
use Rattle.pt_bare_code.specs.law_code_runs.code_run.CodeMachine as coded
use Rattle.law_code_jumps.specs.jump_answers.Known.{SlotsKnown}
use Rattle.law_code_jumps.specs.told_code.Told.{told_code}

module _ (N V W : Type 0) where
  -- where a bare run comes to an outcome, so does the run in which nobody is asked
  abbrev pub BareRunsAreRuns : Type 0
  BareRunsAreRuns = (code : CodeBlocks V) (block : BlockId → Option CodeBlock)
      (known : BlockId → SlotsKnown) (host : Host N V W) (n : ℕ) (b : BlockId) (names : N)
      (world : W) (o : Outcome V W) → bare.Runs (objects.machine code) host n b names world o
      → RunsTo (coded.machine (told_code code block known)) host n b names world o

  -- what it writes first, also where it comes to none, the run writes first
  abbrev pub BareFrontsAreFronts : Type 0
  BareFrontsAreFronts = (code : CodeBlocks V) (block : BlockId → Option CodeBlock)
      (known : BlockId → SlotsKnown) (host : Host N V W) (n : ℕ) (b : BlockId) (names : N)
      (world : W) (ws : List Write)
      → RunWritesFirst (objects.machine code) host n b names world ws
      → WritesFirst (coded.machine (told_code code block known)) host n b names world ws
