-- What the law says of the runs of a text that is a script, with jumps of a debugger (Library Reference, "inspect": `f_lineno`).
use Rattle.std.specs.Prelude.{ℕ, List}
use Rattle.pt_tree.specs.Syntax.{Stms}
use Rattle.sem_fits.specs.fits.Fits.{TooDeep}
use Rattle.sem_run.specs.run.Host.{Host}
use Rattle.sem_run.specs.run.Laws.{HaveTheSameRuns}
use Rattle.sem_run.specs.run.Machine.{BlockId}
use Rattle.sem_run.specs.run.Run.{Debugger}
use Rattle.sem_run.specs.run.Source.{Source}
use Rattle.law_code_runs.specs.code_run.CodeMachine.{CodeSource}
use Rattle.law_code_runs.specs.code_run.Law.{Script, Coded}
use Rattle.pt_front.specs.Text.{IsScript}
use Rattle.law_jumps.specs.script_acts.Laws.{IsTheirs}
use Rattle.law_jumps.specs.start_nests.Laws.{own_block}
use Rattle.law_jumps.specs.acts_in_parts.Laws.{JumpsBySlots}

-- the code of a text that is a script has the runs of the script, jumps too, where the machine of
-- code jumps as is said of slots, and no place gets more than 16,777,216 of them
abbrev pub TextsRunAsTheirCode : (D N V W : Type 0) → Type 0
TextsRunAsTheirCode D N V W = (null : V) (text : List ℕ) (script : Stms) (source : Source V)
    (code : CodeSource V) → IsScript text script
    → (theirs : (b : BlockId) → IsTheirs null script source code b)
    → ((b : BlockId) → (let t = theirs b in
    JumpsBySlots code b (own_block null script source code b t.of_script)))
    → ((b : BlockId) → (let t = theirs b in
    TooDeep (own_block null script source code b t.of_script) → ⊥))
    → (host : Host N V W) (ask : Debugger D N V W) (n : ℕ) (block : BlockId) (names : N) (world : W)
    (d : D) → HaveTheSameRuns (Script source code) (Coded source code) host ask n block names world d
