-- What the law says of who is asked.
use Rattle.std.specs.Prelude.{◌≡◌, List, Bool}
use Rattle.pt_heap.specs.declared.value.Value.{Value}
use Rattle.sem_run.specs.run.Machine.{Machine}
use Rattle.sem_run.specs.run.Events.{Event}
use Rattle.sem_run.specs.run.Tools.{Tools}
use Rattle.sem_run.specs.run.Host.{Host, Hook}
use Rattle.sem_run.specs.run.State.{State}
use Rattle.sem_run.specs.run.Outcome.{Output, Question}
use Rattle.sem_steps.specs.Asking.{asked, due_in}
use Rattle.pt_settrace.specs.Tracing.{Tracing}
use Rattle.pt_settrace.specs.Laws.{IsKept}
use Rattle.pt_monitor.specs.Alike.{ToolsAlike}
use Rattle.pt_asking.specs.Due.{due_by}

-- the trace functions and the tools of a run are those that are kept
pub record AreHooksOf {S N W : Type 0} (h : Tracing) (ts : Tools Value) (s : State S N Value W)
    : Type 0 where
  pub global : s.trace ≡ h.global
  pub frame : IsKept h s.here.frame
  pub tools : ToolsAlike ts s.tools

-- at an event of the newest frame those are asked whom the run asks
abbrev pub AsksAsRun : {S N W : Type 0} → Machine S Value → Host N Value W
    → (minds : Question Value → Bool) → Type 0
AsksAsRun {S = S} {N = N} {W = W} machine host minds =
    (h : Tracing) (ts : Tools Value) (s : State S N Value W) → AreHooksOf h ts s
    → (e : Event Value) → e.frame ≡ s.here.frame.number
    → (lines : List (Output Value)) (hs : List Hook)
    → asked minds lines (due_by h ts e) e hs ≡ asked minds lines (due_in machine host e s) e hs
