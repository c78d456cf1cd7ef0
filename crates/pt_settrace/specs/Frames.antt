-- What is kept of tracing in frames, by their numbers (Language Reference 3.2, "Frame objects": `f_trace`, `f_trace_lines`).
use Rattle.std.specs.Prelude.{ℕ, List, None, true}
use Rattle.std.specs.Ordering.{nat_cmp}
use Rattle.std.specs.FinMap.{FinMap, from_entries}
use Rattle.pt_settrace.specs.declared.frames.FrameTracing.{FrameTracing}

abbrev pub Frames : Type 0
Frames = FinMap nat_cmp FrameTracing

abbrev pub frames_of : List (ℕ × FrameTracing) → Frames
frames_of es = from_entries es

-- a new frame has no trace function of its own, and its lines are traced
abbrev pub untraced : FrameTracing
untraced = record { function = None; lines = true }
