-- Whose function is due at an event, by the trace functions and the tools that are kept (Library
-- Reference, `sys.settrace`, `sys.monitoring`).
use Rattle.std.specs.Prelude.{ℕ, Option, None}
use Rattle.pt_heap.specs.declared.value.Value.{Value}
use Rattle.sem_run.specs.run.Events.{Event, bit, trace_kind}
use Rattle.sem_run.specs.run.Tools.{Tools, Location, wants}
use Rattle.sem_run.specs.run.Host.{Hook, tool, tracer}
use Rattle.sem_run.specs.run.Hooks.{trace_due}
use Rattle.pt_settrace.specs.Tracing.{Tracing, frame_in}

abbrev pub location_of : (tool : ℕ) → Event Value → Location
location_of k e = record { tool = k; bit = bit e.what; block = e.block; act = e.act }

abbrev pub tracer_due : Tracing → Event Value → Option Value
tracer_due h e = trace_due (trace_kind e.what) h.global (frame_in e.frame h)

abbrev pub due_by : Tracing → Tools Value → Event Value → Hook → Option Value
due_by h ts e (tool k) = wants ts (location_of k e)
due_by h ts e tracer = tracer_due h e
due_by h ts e k = None
