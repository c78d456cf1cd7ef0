-- What is seen of an activation that waits: its frame, the exception that is active in it, and
-- whether a hook runs above it (Language Reference 4.1, 7.8).
use Rattle.std.specs.Prelude.{List, Bool, true, false, Option, None}
use Rattle.std.specs.Option.{option_map}
use Rattle.pt_heap.specs.declared.value.Value.{Value}
use Rattle.pt_frames.specs.declared.slot.Slot.{Slot}
use Rattle.pt_frames.specs.declared.activation.Activation.{Activation}
use Rattle.pt_frames.specs.Slots.{active_in}
use Rattle.sem_run.specs.run.Machine.{BlockId}
use Rattle.sem_run.specs.run.Host.{Frame}
use Rattle.law_steps.specs.waiting.Seen.{Seen}
use Rattle.sem_rows.specs.pt_host.World.{Names, Program}
use Rattle.sem_rows.specs.heap_rows.Told.{block_id}
use Rattle.sem_rows.specs.heap_rows.Views.{names_view}
use Rattle.pt_settrace.specs.Tracing.{Tracing, function_in, lines_in}
use Rattle.pt_purposes.specs.declared.standing.Standing.{Standing}
use Rattle.pt_purposes.specs.declared.standing.Standing.TheVariants.{Returns, Raises}
use Rattle.pt_purposes.specs.declared.purpose.Purpose.{Purpose}
use Rattle.pt_purposes.specs.declared.purpose.Purpose.TheVariants.{Hook}
use Rattle.pt_purposes.specs.declared.opener.Running.{Running}
use Rattle.pt_purposes.specs.declared.opener.Opener.{Opener}

-- a block that has ended has none
abbrev pub active_at : Standing → List Slot → Option Value
active_at (Returns v) slots = None
active_at (Raises v) slots = None
active_at standing slots = active_in slots

abbrev pub active_for : Purpose → List Slot → Option Value
active_for (Hook hook standing active telling) slots = active
active_for p slots = active_in slots

abbrev pub waits_for_hook : Purpose → Bool
waits_for_hook (Hook hook standing active telling) = true
waits_for_hook p = false

abbrev pub active_of : Opener → Option Value
active_of o = active_for o.purpose o.running.activation.slots

abbrev pub has_hook : Opener → Bool
has_hook o = waits_for_hook o.purpose

abbrev pub block_of : Activation → BlockId
block_of a = block_id a.block a.hidden

module _ (program : Program) (h : Tracing) where
  -- a frame has the trace function that is kept under its number
  abbrev pub frame_of : Running → Frame Names Value
  frame_of r = record {
    number = r.activation.frame.0;
    block = block_of r.activation;
    names = names_view (program.facts (block_of r.activation)) r.activation;
    line = option_map (λ l. l.0) r.activation.line;
    trace = function_in r.activation.frame.0 h;
    traces_lines = lines_in r.activation.frame.0 h;
    of_generator = r.course.generator;
  }

  abbrev pub seen_of : Opener → Seen Names Value
  seen_of o = record {
    frame = frame_of o.running;
    active = active_of o;
    waits_for_hook = has_hook o;
  }
