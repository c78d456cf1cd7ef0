-- What laws say of activations that wait.
use Rattle.std.specs.Prelude.{◌≡◌, List, map, Option}
use Rattle.pt_heap.specs.declared.value.Value.{Value}
use Rattle.sem_run.specs.run.Machine.{BlockId, Machine}
use Rattle.sem_run.specs.run.Host.{Finding, Response}
use Rattle.sem_run.specs.run.State as run
use Rattle.sem_run.specs.run.State.{OpenAsk}
use Rattle.sem_run.specs.transitions.Transitions.{by_answer}
use Rattle.sem_run.specs.transitions.Successors.{behind_yield, behind_print, behind_request, successor}
use Rattle.law_leads.specs.Leads.{EndsWith, in_run}
use Rattle.law_steps.specs.waiting.Seen.{AllSeen, is_full_by, active_by, hook_runs_by}
use Rattle.sem_rows.specs.pt_host.World.{Names, World, Stores, Program}
use Rattle.sem_rows.specs.pt_host.Trees.{Tree}
use Rattle.pt_settrace.specs.Tracing.{Tracing}
use Rattle.pt_openers.specs.Openers.{is_full, active_in, hook_runs}
use Rattle.pt_purposes.specs.declared.opener.Opener.{Opener}
use Rattle.pt_purposes.specs.Seen.{active_of, has_hook, seen_of}
use Rattle.pt_purposes.specs.Asks.{Led, led_in, DoneSo}
use Rattle.pt_purposes.specs.Openers.{Ways, AreOpeners}

-- those that stand for the activations of a run are seen there as their parts tell
abbrev pub OpenersAreSeen : {S : Type 0} → Program → Machine S Value → Ways S → Tracing → Type 0
OpenersAreSeen {S = S} program machine ways h =
    (above : BlockId) (es : List Opener) (os : List (run.Opener S Names Value World))
    → AreOpeners program machine ways h above es os → AllSeen machine (map (seen_of program h) es) os

-- and by these parts the machine tells whether another one may open, whether a hook runs, and which
-- exception is active in them
pub record PartsTell (program : Program) (h : Tracing) (es : List Opener) : Type 0 where
  pub full : is_full es ≡ is_full_by (map (seen_of program h) es)
  pub hook : hook_runs has_hook es ≡ hook_runs_by (map (seen_of program h) es)
  pub active : active_in active_of es ≡ active_by (map (seen_of program h) es)

-- what an answer comes to leads the run on where the code of an ask goes on, if it gives no value on
abbrev pub IsAnswered : {C : Type 0} → Led C → Type 0
IsAnswered (behind_yield v k st) = ⊥
IsAnswered (behind_print x l) = IsAnswered l
IsAnswered (behind_request r st k) =
    (x : Response Names Value r) (st1 : Stores) → IsAnswered (k x st1)
IsAnswered l = Unit {0}

abbrev pub ResultsGoOn : {C S : Type 0} → (C → S) → Type 0
ResultsGoOn {C = C} embed =
    (q : OpenAsk C Value) (left : Option Value) (t : Tree (Finding Value q.ask))
    → EndsWith q.ask left t → IsAnswered (successor (by_answer q t))
    → DoneSo (in_run embed q) left (led_in embed (successor (by_answer q t)))
    (by_answer (in_run embed q) t)
