-- What the machine does with what an instruction came to: it is a reply with a value, or a block is
-- called, or an exception arises or goes on (Language Reference 4.1).
use Rattle.std.specs.Prelude.{◌≡◌}
use Rattle.pt_base.specs.declared.numbers.Pc.{Pc}
use Rattle.law_doing.specs.pt_machine_state.declared.blocks.BlockCode.{BlockCode}
use Rattle.law_doing.specs.pt_machine_state.declared.blocks.Blocks.{Blocks}
use Rattle.law_doing.specs.pt_machine_state.pt_code_facts.sem_rows.declared.heap_rows.progress.Progress.{Progress}
use Rattle.law_doing.specs.pt_machine_state.pt_code_facts.sem_rows.declared.heap_rows.progress.Progress.TheVariants as progress
use Rattle.law_doing.specs.pt_answering.pt_opening.pt_run_state.declared.machine.Machine.{Machine}
use Rattle.law_doing.specs.pt_answering.declared.answering.Asked.{Asked}
use Rattle.law_doing.specs.pt_answering.declared.answering.Answered.{Answered}
use Rattle.law_doing.specs.pt_answering.declared.answering.Answered.TheVariants as answer
use Rattle.law_doing.specs.pt_answering.Answering.{AnsweredSo, answered}
use Rattle.law_doing.specs.pt_failing.declared.failing.Failed.{Failed}
use Rattle.law_doing.specs.pt_failing.declared.failing.Failed.TheVariants as failed
use Rattle.law_doing.specs.pt_failing.declared.failing.Failing.{Failing}
use Rattle.law_doing.specs.pt_failing.Failing.{FailsSo}
use Rattle.law_doing.specs.pt_calling.Calling.{CallsSo}
use Rattle.law_doing.specs.pt_reraising.Raising.{RaisesSo}
use Rattle.pt_applying.specs.declared.applying.Applied.{Applied}
use Rattle.pt_applying.specs.declared.applying.Applied.TheVariants.{Goes, Leaves, Lacks}

abbrev pub failing_of : Asked → Failing
failing_of d = record { called = d.called; is_act = d.is_act; active = d.active }

abbrev pub of_failed : Failed → Applied
of_failed (failed.Goes event) = Goes event
of_failed (failed.Leaves what) = Leaves what
of_failed (failed.Further p) = Lacks

-- what is no reply with a value
abbrev pub DoesSo : Blocks → BlockCode → Progress → Failing → (old : Machine) → Failed
    → (new : Machine) → Type 0
DoesSo blocks block (progress.Calls b hidden ls why) f old r new =
    CallsSo blocks block b hidden ls why f old r new
DoesSo blocks block progress.RaisesAgain f old r new =
    RaisesSo block f.is_act f.active old r new
DoesSo blocks block p f old r new = FailsSo block p f old r new

-- behind the answer what it leaves is done
abbrev pub AppliesIn : Blocks → BlockCode → Failing → Answered → (old : Machine) → Applied
    → (new : Machine) → Type 0
AppliesIn blocks block f (answer.Goes event) old r new = (r ≡ Goes event) × (new ≡ old)
AppliesIn blocks block f (answer.Further p) old r new =
    (x : Failed) × ((r ≡ of_failed x) × DoesSo blocks block p f old x new)

abbrev pub AppliesBehind : Blocks → BlockCode → Failing → AnsweredSo → Applied → (new : Machine)
    → Type 0
AppliesBehind blocks block f a r new = AppliesIn blocks block f a.answer a.machine r new

-- the machine did what an instruction came to
abbrev pub AppliesSo : Blocks → BlockCode → (next : Pc) → Progress → Asked → (old : Machine)
    → Applied → (new : Machine) → Type 0
AppliesSo blocks block next p d old r new =
    AppliesBehind blocks block (failing_of d) (answered block next p d old) r new
