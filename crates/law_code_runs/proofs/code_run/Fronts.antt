-- Code whose acts are known begins as its script does, and its runs never halt unfinished.
use Rattle.std.proofs.Common.{ℕ}
use Rattle.sem_run.specs.run.Machine.{BlockId}
use Rattle.sem_run.specs.run.Host.{Host}
use Rattle.sem_run.specs.run.Run.{Debugger}
use Rattle.sem_run.specs.run.Laws.{BeginAlike, NeverHalts, session}
use Rattle.sem_run.specs.run.Source.{Source}
use Rattle.sem_run.proofs.run.Fronts.{begin_alike, second_never_halts}
use Rattle.law_code_runs.specs.code_run.CodeMachine.{CodeSource}
use Rattle.law_code_runs.specs.code_run.Parts.{HasClosedParts, KnowsActs}
use Rattle.law_code_runs.specs.code_run.Law.{IsCodeOf, Script, Coded}
use Rattle.law_code_runs.proofs.code_run.States.{At, Lands, Stands}
use Rattle.law_code_runs.proofs.code_run.Following.{code_follows}

module _ {D N V W : Type 0} (source : Source V) (code : CodeSource V) (of : IsCodeOf source code)
    (has : (b : BlockId) → HasClosedParts source code b)
    (knows : (b : BlockId) → KnowsActs source code b) (host : Host N V W) (ask : Debugger D N V W)
    (n : ℕ) (block : BlockId) (names : N) (world : W) (d : D) where
  pub begins_so : BeginAlike (Script source code) (Coded source code) host ask n block names world d
  begins_so =
      begin_alike (Script source code) (Coded source code) host (At source code)
      (Stands source code has) (Lands source code has) (code_follows source code of has knows) ask n
      block names world d

  pub never_halts : NeverHalts (Coded source code) host ask n
      (session (Coded source code) block names world d)
  never_halts =
      second_never_halts (Script source code) (Coded source code) host (At source code)
      (Stands source code has) (Lands source code has) (code_follows source code of has knows) ask n
      block names world d
