-- What laws say of the acts of a script's code, and so of its runs.
use Rattle.std.specs.Prelude.{◌≡◌, ℕ, length, None}
use Rattle.pt_tree.specs.Syntax.{Stms}
use Rattle.pt_scopes.specs.Mentions.{places_script}
use Rattle.pt_scopes.specs.Refusals.{fault_of}
use Rattle.pt_code.specs.declared.CodeBlock.{CodeBlock}
use Rattle.sem_code.specs.slots.Slots.{State}
use Rattle.sem_compile.specs.compile.ScriptCode.{code_block}
use Rattle.sem_code.specs.silent_turns.Ahead.{turns_to_act}
use Rattle.law_pieces.specs.piece_acts.Counting.{acts_in}
use Rattle.sem_run.specs.run.Host.{Host}
use Rattle.sem_run.specs.run.Laws.{HaveTheSameRuns}
use Rattle.sem_run.specs.run.Machine.{BlockId}
use Rattle.sem_run.specs.run.Run.{Debugger}
use Rattle.sem_run.specs.run.Source.{Source}
use Rattle.law_code_runs.specs.code_run.CodeMachine.{CodeSource}
use Rattle.law_code_runs.specs.code_run.Law.{Script, Coded}
use Rattle.law_code_runs.specs.code_run.Parts.{HasClosedParts, KnowsActs}
use Rattle.law_code_runs.specs.code_follows.Laws.{HasItsFreeNames, IsOfScript}

-- what a machine of code is told of a block: as many acts as its marks tell, and so many turns to the next one as its bytes and the slots of a state ask for
pub record IsTold {V : Type 0} (code : CodeSource V) (b : BlockId) (block : CodeBlock) : Type 0 where
  pub acts : code.acts b ≡ acts_in block.marks
  pub most_turns : (t : State V) → code.most_turns b t ≡ turns_to_act (length block.instructions) t

-- it knows the acts of each block of a script
abbrev pub ScriptKnowsItsActs : (V : Type 0) → Type 0
ScriptKnowsItsActs V = (null : V) (ss : Stms) (source : Source V) (code : CodeSource V) (b : BlockId) → fault_of (places_script ss) ≡ None
    → (of : IsOfScript null ss source code b) → IsTold code b (code_block of.has_object.layout) → KnowsActs source code b

-- a block of a source is one of the script, with the script's code, of which the machine is told
pub record IsTheirs {V : Type 0} (null : V) (ss : Stms) (source : Source V) (code : CodeSource V) (b : BlockId) : Type 0 where
  pub of_script : IsOfScript null ss source code b
  pub is_told : IsTold code b (code_block of_script.has_object.layout)

-- so where all blocks are the script's and have their closed parts, the code has the runs of the script
abbrev pub ScriptsRunAsTheirCode : (D N V W : Type 0) → Type 0
ScriptsRunAsTheirCode D N V W = (null : V) (ss : Stms) (source : Source V) (code : CodeSource V) → fault_of (places_script ss) ≡ None → HasItsFreeNames ss
    → ((b : BlockId) → IsTheirs null ss source code b) → ((b : BlockId) → HasClosedParts source code b)
    → (host : Host N V W) (ask : Debugger D N V W) (n : ℕ) (block : BlockId) (names : N) (world : W) (d : D)
    → HaveTheSameRuns (Script source code) (Coded source code) host ask n block names world d
