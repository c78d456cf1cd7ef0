-- What the machine does to tell something: nothing in a hidden block and while a hook runs, and else
-- the first becomes an event, at which the hooks are asked. An exception gets the entry of its
-- traceback as its turn comes, told or not (Library Reference, `sys.settrace`, `sys.monitoring`).
use Rattle.std.specs.Prelude.{List, [], ◌∷◌, Bool, true, false, ◌||◌, if◌then◌else◌}
use Rattle.pt_heap.specs.declared.object.Object.{Object}
use Rattle.pt_happenings.specs.declared.happening.Happening.{Happening}
use Rattle.pt_happenings.specs.declared.happening.Happening.TheVariants.{Raises}
use Rattle.pt_happenings.specs.declared.event.Event.{Event}
use Rattle.pt_pendings.specs.declared.telling.Left.TheVariants.{From}
use Rattle.pt_openers.specs.Openers.{hook_runs}
use Rattle.pt_tracing.specs.pt_machine_state.declared.blocks.BlockCode.{BlockCode}
use Rattle.pt_tracing.specs.pt_machine_state.Changes.{entered, line_of}
use Rattle.pt_tracing.specs.pt_purposes.Seen.{has_hook}
use Rattle.pt_tracing.specs.pt_run_state.declared.machine.Machine.{Machine}
use Rattle.pt_tracing.specs.pt_run_state.declared.machine.Phase.TheVariants.{Telling as Tells}
use Rattle.pt_tracing.specs.pt_run_state.declared.machine.Waiting.{Waiting}

abbrev pub is_silent : Machine → Bool
is_silent m = m.code.here.hidden || hook_runs has_hook m.openers

-- an event is told, at which all are still to be asked
abbrev pub with_event : Waiting → Event → (behind : List Happening) → Machine → Machine
with_event w e hs m = record m {
  phase = Tells w.standing w.active (record {
    event = e;
    left = From 0;
    behind = hs;
    pending = w.pending;
  });
}

-- whether an event is told, and the machine then
pub record Told : Type 0 where
  pub event : Bool
  pub machine : Machine

module _ (block : BlockCode) where
  -- what happens in the newest activation
  abbrev pub event_at : Happening → Machine → Event
  event_at h m = record {
    what = h;
    frame = m.code.here.frame;
    block = m.code.here.block;
    act = m.course.act;
    line = record { 0 = line_of block m.code };
    generator = m.course.generator;
  }

  abbrev pub entered_heap : Happening → Machine → List Object
  entered_heap (Raises v) m = (entered block v m.code).heap
  entered_heap h m = m.code.heap

  abbrev pub entered_by : Happening → Machine → Machine
  entered_by h m = record m { code = record m.code { heap = entered_heap h m } }

  abbrev pub entered_by_all : List Happening → Machine → Machine
  entered_by_all [] m = m
  entered_by_all (h ∷ hs) m = entered_by_all hs (entered_by h m)

  abbrev pub told_aloud : Waiting → List Happening → Machine → Told
  told_aloud w [] m = record { event = false; machine = m }
  told_aloud w (h ∷ hs) m = record {
    event = true;
    machine = with_event w (event_at h (entered_by h m)) hs (entered_by h m);
  }

  abbrev pub told_in : (silent : Bool) → Waiting → List Happening → Machine → Told
  told_in true w hs m = record { event = false; machine = entered_by_all hs m }
  told_in false w hs m = told_aloud w hs m

  abbrev pub told : Waiting → List Happening → Machine → Told
  told w hs m = told_in (is_silent m) w hs m
