-- What laws say of the runs of texts that are scripts and of their code, with jumps of a debugger.
use Rattle.std.specs.Prelude.{ℕ, List}
use Rattle.sem_run.specs.run.Host.{Host}
use Rattle.sem_run.specs.run.Laws.{HaveTheSameRuns, BeginAlike, NeverHalts, session}
use Rattle.sem_run.specs.run.Machine.{BlockId, Machine}
use Rattle.sem_run.specs.run.Run.{Debugger}
use Rattle.law_jumps.specs.law_compile.script_runs.Laws.{tree_machine}
use Rattle.law_text_code.specs.Texts.{TextCode, IsCodeOfText, told_machine, ProgramCode, IsCodeOfProgram, program_machine, program_code_machine}

module _ {S R : Type 0} (D N V W : Type 0) where
  -- the second machine has the runs of the first, also where they come to no outcome, and never
  -- halts unfinished: for each host, debugger and bound, from each block
  abbrev pub RunsAsIt : Machine S V → Machine R V → Type 0
  RunsAsIt first second = (host : Host N V W) (ask : Debugger D N V W) (n : ℕ) (block : BlockId)
      (names : N) (world : W) (d : D) → HaveTheSameRuns first second host ask n block names world d
      × BeginAlike first second host ask n block names world d
      × NeverHalts second host ask n (session second block names world d)

-- the code of a text that is a script has the runs of the script
abbrev pub TextRunsAsItsCode : (D N V W : Type 0) → Type 0
TextRunsAsItsCode D N V W = (null : V) (text : List ℕ) (t : TextCode V) → IsCodeOfText null text t
    → RunsAsIt D N V W (tree_machine null t.script) (told_machine t)

-- and that of a program has the runs of the program, whose hidden blocks are the prelude's
abbrev pub ProgramRunsAsItsCode : (D N V W : Type 0) → Type 0
ProgramRunsAsItsCode D N V W = (null : V) (prelude script : List ℕ) (p : ProgramCode V)
    → IsCodeOfProgram null prelude script p
    → RunsAsIt D N V W (program_machine null p) (program_code_machine p)
