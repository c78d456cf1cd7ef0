-- What follows for trace functions.
use Rattle.std.specs.Prelude.{◌≡◌, ◌≢◌, ℕ, false, None, Some}
use Rattle.std.specs.FinMap as map
use Rattle.pt_heap.specs.declared.value.Value.{Value}
use Rattle.pt_events.specs.declared.EventKind.{EventKind}
use Rattle.pt_events.specs.declared.EventKind.TheVariants.{Call, Line}
use Rattle.sem_run.specs.run.Host.{Frame}
use Rattle.sem_run.specs.run.Hooks.{trace_due}
use Rattle.pt_settrace.specs.declared.frames.FrameTracing.{FrameTracing}
use Rattle.pt_settrace.specs.Frames.{untraced}
use Rattle.pt_settrace.specs.Tracing.{Tracing, function_in, lines_in, tracing_in, with_tracing, kind_of, due_in}

-- a frame of a run is the one of which something is kept under its number
pub record IsKept {N : Type 0} (h : Tracing) (f : Frame N Value) : Type 0 where
  pub function : f.trace ≡ function_in f.number h
  pub lines : f.traces_lines ≡ lines_in f.number h

abbrev pub IsDueInRun : {N : Type 0} → EventKind → Tracing → Frame N Value → Type 0
IsDueInRun e h f = IsKept h f → due_in e f.number h ≡ trace_due (Some (kind_of e)) h.global f

-- the rules of sys.settrace: while there is no global function none is asked; a call asks the global one, and nothing else does; lines
-- ask nobody where the frame doesn't trace them; whatever else is told asks the frame's own
pub record AsksAsTold (e : EventKind) (k : ℕ) (h : Tracing) : Type 0 where
  pub unset : h.global ≡ None → due_in e k h ≡ None
  pub call : due_in Call k h ≡ h.global
  pub untraced_lines : lines_in k h ≡ false → due_in Line k h ≡ None
  pub own : (g : Value) → h.global ≡ Some g → e ≢ Call → e ≢ Line → due_in e k h ≡ function_in k h
  pub none : function_in k h ≡ None → e ≢ Call → due_in e k h ≡ None

-- what is kept in a frame is there, and nothing else changes; what is forgotten is as in a new frame
pub record KeepsInFrames (k : ℕ) (t : FrameTracing) (h : Tracing) : Type 0 where
  pub kept : tracing_in k (with_tracing k t h) ≡ t
  pub others : (j : ℕ) → j ≢ k → tracing_in j (with_tracing k t h) ≡ tracing_in j h
  pub forgotten : tracing_in k (record h { frames = map.remove h.frames k }) ≡ untraced
  pub rest : (j : ℕ) → j ≢ k → tracing_in j (record h { frames = map.remove h.frames k }) ≡ tracing_in j h
