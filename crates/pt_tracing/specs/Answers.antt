-- What trace functions change in the machine: the answer of one is the trace function of the frame in
-- which it was called, as the kind of its event has it, and one that raises is unset (Library
-- Reference, `sys.settrace`).
use Rattle.std.specs.Prelude.{Option, Some, None}
use Rattle.pt_heap.specs.declared.value.Value.{Value}
use Rattle.pt_events.specs.declared.EventKind.{EventKind}
use Rattle.sem_run.specs.run.Hooks.{trace_behind}
use Rattle.pt_settrace.specs.Tracing.{Tracing, kind_of, unless_none, function_in, with_function}
use Rattle.pt_run_state.specs.declared.machine.Machine.{Machine}

abbrev pub with_hooks : Tracing → Machine → Machine
with_hooks h m = record m { hooks = h }

abbrev pub answered : EventKind → Value → Machine → Machine
answered k v m =
    with_hooks
    (with_function m.code.here.frame.0
    (trace_behind (Some (kind_of k)) (unless_none v) (function_in m.code.here.frame.0 m.hooks))
    m.hooks) m

abbrev pub failed : Machine → Machine
failed m = with_hooks (record m.hooks { global = None }) m
