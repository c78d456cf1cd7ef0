-- Where nothing hooks into a run: no trace function is set, no tool wants an event, and the debugger
-- minds none (Library Reference, `sys.settrace`, `sys.monitoring`). What a run gives of what is told
-- there.
use Rattle.std.specs.Prelude.{◌≡◌, List, [], ◌∷◌, ◌++◌, if◌then◌else◌, None}
use Rattle.sem_run.specs.run.Machine.{Machine}
use Rattle.sem_run.specs.run.Events.{Happening, Event, trace_kind}
use Rattle.sem_run.specs.run.Tools.{Location, wants}
use Rattle.sem_run.specs.run.Host.{Host}
use Rattle.sem_run.specs.run.State.{State, is_silent}
use Rattle.sem_run.specs.run.Outcome.{Output, gives, about, View}
use Rattle.sem_run.specs.run.Hooks.{event_of, enter_told, log_of}
use Rattle.sem_run.specs.run.Run.{Debugger, says_nothing}

pub record IsQuiet {D S N V W : Type 0} (ask : Debugger D N V W) (d : D) (s : State S N V W)
    : Type 0 where
  pub no_trace : s.trace ≡ None
  pub no_tool : (l : Location) → wants s.tools l ≡ None
  pub no_debugger : (e : Event V) (v : View N V W) → ask (about e) v d ≡ says_nothing d

module _ {S N V W : Type 0} (machine : Machine S V) (host : Host N V W) where
  -- where all of this has had its turn: an exception has the entry of its traceback
  abbrev pub told_to : List (Happening V) → State S N V W → State S N V W
  told_to [] s = s
  told_to (h ∷ hs) s = told_to hs (enter_told machine host h s)

  -- an event, and its line for the log; nothing in a hidden block, and while a hook runs
  abbrev pub told : Happening V → State S N V W → List (Output V)
  told h s =
      if is_silent s then []
      else gives (event_of machine host h s)
      ∷ log_of host (trace_kind h) (event_of machine host h s) s.world

  abbrev pub all_told : List (Happening V) → State S N V W → List (Output V)
  all_told [] s = []
  all_told (h ∷ hs) s =
      told h (enter_told machine host h s) ++ all_told hs (enter_told machine host h s)
