-- Where nothing hooks into a run: no trace function is set, no tool wants an event, and no event is
-- minded by a debugger (Library Reference, `sys.settrace`, `sys.monitoring`).
use Rattle.std.specs.Prelude.{◌≡◌, Bool, false, None}
use Rattle.sem_run.specs.run.Events.{Event}
use Rattle.sem_run.specs.run.Tools.{Location, wants}
use Rattle.sem_run.specs.run.State.{State}
use Rattle.sem_run.specs.run.Outcome.{Question, about}

pub record NothingHooksIn {S N V W : Type 0} (minds : Question V → Bool) (s : State S N V W)
    : Type 0 where
  pub no_trace : s.trace ≡ None
  pub no_tool : (l : Location) → wants s.tools l ≡ None
  pub no_debugger : (e : Event V) → minds (about e) ≡ false
