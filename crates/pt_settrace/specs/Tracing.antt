-- The trace functions of a run, and which one is due (Library Reference, sys.settrace).
use Rattle.std.specs.Prelude.{ℕ, Bool, false, Option, None, Some, unwrap_or, refl}
use Rattle.std.specs.Coded.{Coded, code_by, coded×, coded_option, coded_ℕ, coded_bool}
use Rattle.std.specs.FinMap as map
use Rattle.pt_heap.specs.declared.value.Value.{Value}
use Rattle.pt_heap.specs.declared.value.Value.TheVariants as value
use Rattle.pt_events.specs.declared.EventKind.{EventKind}
use Rattle.pt_events.specs.declared.EventKind.TheVariants.{Call, Line, Return, Exception}
use Rattle.sem_run.specs.run.Events.{TraceKind, a_call, a_line, a_return, an_exception}
use Rattle.sem_run.specs.run.Host.{Frame}
use Rattle.sem_run.specs.run.Hooks.{trace_due}
use Rattle.pt_settrace.specs.declared.frames.FrameTracing.{FrameTracing}
use Rattle.pt_settrace.specs.Frames.{Frames, untraced}

-- the global trace function, what was set in frames, and whether a hook runs
pub record Tracing : Type 0 where
  pub global : Option Value
  pub frames : Frames
  pub busy : Bool

-- what a proof tells two of them apart by
abbrev pub tracing_code : Coded Value → Coded FrameTracing → Coded Tracing
tracing_code v t =
    code_by (Option Value × (Frames × Bool)) (coded× (coded_option v) (coded× (map.code coded_ℕ t) coded_bool)) (λ h. (h.global, (h.frames, h.busy)))
    (λ p. record { global = p.0; frames = p.1.0; busy = p.1.1 }) (λ _. refl)

-- None stands for no function
abbrev pub unless_none : Value → Option Value
unless_none value.None = None
unless_none f = Some f

abbrev pub or_none : Option Value → Value
or_none None = value.None
or_none (Some f) = f

abbrev pub tracing_in : (frame : ℕ) → Tracing → FrameTracing
tracing_in k h = unwrap_or (map.get h.frames k) untraced

abbrev pub function_in : (frame : ℕ) → Tracing → Option Value
function_in k h = (tracing_in k h).function

abbrev pub lines_in : (frame : ℕ) → Tracing → Bool
lines_in k h = (tracing_in k h).lines

abbrev pub with_tracing : (frame : ℕ) → FrameTracing → Tracing → Tracing
with_tracing k t h = record h { frames = map.insert h.frames k t }

abbrev pub with_function : (frame : ℕ) → Option Value → Tracing → Tracing
with_function k f h = with_tracing k (record { function = f; lines = lines_in k h }) h

abbrev pub with_lines : (frame : ℕ) → Bool → Tracing → Tracing
with_lines k b h = with_tracing k (record { function = function_in k h; lines = b }) h

abbrev pub kind_of : EventKind → TraceKind
kind_of Call = a_call
kind_of Line = a_line
kind_of Return = a_return
kind_of Exception = an_exception

-- a frame with what is kept under its number; nothing else of it is looked at
abbrev pub frame_in : (frame : ℕ) → Tracing → Frame (Unit {0}) Value
frame_in k h = record {
  number = k;
  block = record { hidden = false; number = 0 };
  names = tt;
  line = None;
  trace = function_in k h;
  traces_lines = lines_in k h;
  of_generator = false;
}

-- the function that is due at an event in a frame
abbrev pub due_in : EventKind → (frame : ℕ) → Tracing → Option Value
due_in e k h = trace_due (Some (kind_of e)) h.global (frame_in k h)
