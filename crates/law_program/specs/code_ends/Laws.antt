-- What the laws say of the run of a code that has a file and whose blocks fit, over a prelude that is such a code too, whatever code objects of their blocks
-- it runs.
use Rattle.std.specs.Prelude.{◌≡◌, ℕ, List, ◌++◌}
use Rattle.pt_heap.specs.declared.value.Value.{Value}
use Rattle.pt_code.specs.declared.Code.{Code}
use Rattle.pt_code.specs.File.{HasFile}
use Rattle.sem_run.specs.run.Run.{Write}
use Rattle.pt_bare_runs.specs.Strides.{Outcome}
use Rattle.sem_fits.specs.fits.Fits.{AllFit}
use Rattle.sem_rows.specs.pt_host.World.{World}
use Rattle.pt_prog.specs.pt_run_script.pt_run_code.pt_runner.Work.{Work}
use Rattle.pt_prog.specs.pt_run_script.pt_run_code.CodeRun.{CodeRunsTo, CodeWritesFirst}

-- so it is with what the verifier passes of what was read
pub record IsVerified (c : Code) : Type 0 where
  pub has_file : HasFile c
  pub fit : AllFit c

-- under a bound on acts it comes to one outcome at most, by one work
abbrev pub CodeRunsToOneOutcome : Type 0
CodeRunsToOneOutcome = (prelude c : Code) → IsVerified prelude → IsVerified c → (n : ℕ) (o p : Outcome Value World) (k l : Work)
    → CodeRunsTo prelude c n o k → CodeRunsTo prelude c n p l → (o ≡ p) × (k ≡ l)

-- where it comes to one, all that this writes begins with what the run writes first
abbrev pub OutcomeBeginsWithFirstWrites : Type 0
OutcomeBeginsWithFirstWrites = (prelude c : Code) → IsVerified prelude → IsVerified c → (n : ℕ) (o : Outcome Value World) (k : Work) (ws : List Write)
    → CodeRunsTo prelude c n o k → CodeWritesFirst prelude c n ws → (rest : List Write) × (o.written ≡ ws ++ rest)
