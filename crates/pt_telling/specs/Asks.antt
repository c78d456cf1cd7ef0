-- What the machine does at an event that is told: who is asked next, and what the log has of it
-- (Library Reference, `sys.settrace`, `sys.monitoring`).
use Rattle.std.specs.Prelude.{◌≡◌, List, [], ◌∷◌, Bool, true, false, Option, Some, None, if◌then◌else◌}
use Rattle.pt_heap.specs.declared.value.Value.{Value}
use Rattle.pt_heap.specs.declared.object.Object.{Object}
use Rattle.sem_run.specs.run.Events.{TraceKind, trace_kind}
use Rattle.sem_run.specs.run.Outcome.{Output}
use Rattle.sem_run.specs.run.Run as run
use Rattle.sem_steps.specs.Steps.{minded}
use Rattle.sem_steps.specs.Asking.{asked}
use Rattle.pt_tracing.specs.pt_purposes.sem_rows.pt_host.LogLines.{kind_word, class_behind}
use Rattle.pt_happenings.specs.Views.{happening_view, event_view}
use Rattle.pt_happenings.specs.declared.event.Event.{Event}
use Rattle.pt_pendings.specs.declared.telling.Left.{Left}
use Rattle.pt_pendings.specs.declared.telling.Telling.{Telling}
use Rattle.pt_pendings.specs.Views.{left_view}
use Rattle.pt_asking.specs.declared.asked.Asked.{Asked}
use Rattle.pt_asking.specs.declared.asked.Next.{Next}
use Rattle.pt_asking.specs.declared.asked.Next.TheVariants.{Nobody, Consulted, Called}
use Rattle.pt_asking.specs.Due.{due_by}
use Rattle.pt_asking.specs.Asking.{asked_view}
use Rattle.pt_tracing.specs.pt_machine_state.declared.blocks.BlockCode.{BlockCode}
use Rattle.pt_tracing.specs.pt_machine_state.declared.writes.Writes.{Writes}
use Rattle.pt_tracing.specs.pt_machine_state.Writing.{Adds, event_line}
use Rattle.pt_tracing.specs.pt_purposes.declared.standing.Standing.{Standing}
use Rattle.pt_tracing.specs.pt_purposes.declared.standing.Standing.TheVariants.{AtPlace}
use Rattle.pt_tracing.specs.pt_run_state.declared.machine.Machine.{Machine}
use Rattle.pt_tracing.specs.pt_run_state.declared.machine.Phase.{Phase}
use Rattle.pt_tracing.specs.pt_run_state.declared.machine.Phase.TheVariants.{Turning, Telling as Tells}
use Rattle.pt_tracing.specs.pt_run_state.declared.machine.Waiting.{Waiting}
use Rattle.pt_telling.specs.declared.asking.Found.{Found}
use Rattle.pt_telling.specs.declared.asking.Found.TheVariants as found
use Rattle.pt_telling.specs.Telling.{Told, told}

abbrev pub is_telling : Phase → Bool
is_telling (Turning standing) = false
is_telling (Tells standing active t) = true

-- the log's lines for an event
abbrev pub lines_of_kind : Option TraceKind → BlockCode → Event → List Object → List run.Write
lines_of_kind (Some k) block e h =
    event_line (kind_word k) e.line.0 block.name (class_behind h (happening_view e.what)) ∷ []
lines_of_kind None block e h = []

abbrev pub event_lines : BlockCode → Event → List Object → List run.Write
event_lines block e h = lines_of_kind (trace_kind (happening_view e.what)) block e h

-- that is asked next at an event, where a debugger minds it or doesn't
abbrev pub IsNext : (minds : Bool) → Machine → Telling → Asked → Type 0
IsNext minds m t a =
    (lines : List (Output Value)) → asked_view lines (event_view t.event) a
    ≡ asked (minded (λ e. minds)) lines (due_by m.hooks m.tools (event_view t.event))
    (event_view t.event) (left_view t.left)

-- what is found so, and the machine then
pub record FoundSo : Type 0 where
  pub found : Found
  pub machine : Machine

-- these are still to be asked
abbrev pub leaving : Left → Standing → Option Value → Telling → Machine → Machine
leaving left standing active t m = record m {
  phase = Tells standing active (record t { left = left });
}

-- nobody is asked any more: what else is told there is next, and then what waits
abbrev pub waiting_of : Standing → Option Value → Telling → Waiting
waiting_of standing active t = record { standing = standing; active = active; pending = t.pending }

abbrev pub beyond : Waiting → Told → FoundSo
beyond w r = record {
  found = if r.event then found.Event else found.Onward w;
  machine = r.machine;
}

abbrev pub told_behind : BlockCode → Waiting → Telling → Machine → FoundSo
told_behind block w t m =
    beyond w (told block w t.behind (record m { phase = Turning AtPlace }))

abbrev pub found_by : BlockCode → Next → Standing → Option Value → Telling → Machine → FoundSo
found_by block Nobody standing active t m =
    told_behind block (waiting_of standing active t) t m
found_by block (Consulted q left) standing active t m = record {
  found = found.Asks q;
  machine = leaving left standing active t m;
}
found_by block (Called h f left) standing active t m = record {
  found = found.Calls h f;
  machine = leaving left standing active t m;
}

-- the machine found this at the event that is told, and wrote its lines first
pub record Finds (block : BlockCode) (minds : Bool) (standing : Standing) (active : Option Value)
    (t : Telling) (f : Found) (old : Machine) (written : Writes) (new : Machine) (writes : Writes)
    : Type 0 where
  pub asked : Asked
  pub next : IsNext minds old t asked
  pub found : record { found = f; machine = new }
      ≡ found_by block asked.next standing active t old
  pub adds : Adds written writes
      (if asked.logs then event_lines block t.event old.code.heap else [])

abbrev pub FindsIn : BlockCode → (minds : Bool) → Phase → Found → (old : Machine)
    (written : Writes) (new : Machine) (writes : Writes) → Type 0
FindsIn block minds (Turning standing) f old written new writes = Unit {0}
FindsIn block minds (Tells standing active t) f old written new writes =
    Finds block minds standing active t f old written new writes
