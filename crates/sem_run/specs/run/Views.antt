-- Frames as they are looked at and changed (Library Reference, sys._getframe; Language Reference 3.2, "Frame objects").
use Rattle.std.specs.Prelude.{ℕ, ◌==◌, List, [], ◌∷◌, ◌++◌, map, Bool, Option, Some, None, if◌then◌else◌}
use Rattle.sem_control.specs.control.Bases.{or_else}
use Rattle.sem_run.specs.run.Machine.{BlockId, Machine}
use Rattle.sem_run.specs.run.Host.{Frame, FrameView, Here, Entry}
use Rattle.sem_run.specs.run.State.{Activation, Opener, Generator, fresh, suspended, running, finished, State, in_frame}

abbrev pub line_or : (first_line : ℕ) → Option ℕ → ℕ
line_or l (Some k) = k
line_or l None = l

abbrev pub at_entry : {N V : Type 0} → Entry → Option (FrameView N V) → List (FrameView N V) → List (FrameView N V)
at_entry e (Some v) vs = record v { line = e.line } ∷ vs
at_entry e None vs = vs

abbrev pub visible : {N V : Type 0} → List (Frame N V) → List (Frame N V)
visible [] = []
visible (f ∷ fs) = if f.block.hidden then visible fs else f ∷ visible fs

abbrev pub number_of_first : {N V : Type 0} → List (Frame N V) → Option ℕ
number_of_first [] = None
number_of_first (f ∷ fs) = Some f.number

abbrev pub numbers : {N V : Type 0} → List (Frame N V) → List ℕ
numbers fs = map (λ f. f.number) fs

abbrev pub frames_of : {S N V W : Type 0} → List (Opener S N V W) → List (Frame N V)
frames_of os = map (λ o. o.activation.frame) os

-- the open frames, the newest first, and those of them that are visible
abbrev pub open_frames : {S N V W : Type 0} → State S N V W → List (Frame N V)
open_frames s = s.here.frame ∷ frames_of s.openers

abbrev pub visible_frames : {S N V W : Type 0} → State S N V W → List (Frame N V)
visible_frames s = visible (open_frames s)

abbrev pub visible_numbers : {S N V W : Type 0} → State S N V W → List ℕ
visible_numbers s = numbers (visible_frames s)

abbrev pub frames_in : {S N V : Type 0} → List (Generator S N V) → List (Frame N V)
frames_in [] = []
frames_in (fresh a ∷ gs) = a.frame ∷ frames_in gs
frames_in (suspended a y ∷ gs) = a.frame ∷ frames_in gs
frames_in (running ∷ gs) = frames_in gs
frames_in (finished ∷ gs) = frames_in gs

module _ {N V : Type 0} (first_line : BlockId → ℕ) where
  -- the line of a frame: until its first act its block's first line stands for it
  abbrev pub line_of : Frame N V → ℕ
  line_of f = line_or (first_line f.block) f.line

  abbrev pub view_frame : Frame N V → (back : Option ℕ) → FrameView N V
  view_frame f b = record { frame = f; line = line_of f; back = b }

  -- each with the one behind it
  abbrev pub view_frames : List (Frame N V) → List (FrameView N V)
  view_frames [] = []
  view_frames (f ∷ fs) = view_frame f (number_of_first fs) ∷ view_frames fs

  -- a frame that is open; hidden ones have no object of their own
  abbrev pub view_open : (number : ℕ) → List (Frame N V) → Option (FrameView N V)
  view_open k [] = None
  view_open k (f ∷ fs) = if f.number == k then Some (view_frame f (number_of_first (visible fs))) else view_open k fs

  -- one that isn't has none behind it
  abbrev pub view_alone : (number : ℕ) → List (Frame N V) → Option (FrameView N V)
  view_alone k [] = None
  view_alone k (f ∷ fs) = if f.number == k then Some (view_frame f None) else view_alone k fs

  abbrev pub line_of_first : (otherwise : Frame N V) → List (Frame N V) → ℕ
  line_of_first f [] = line_of f
  line_of_first f (g ∷ gs) = line_of g

module _ {S N V W : Type 0} (first_line : BlockId → ℕ) where
  -- what a debugger sees: the visible open frames, the newest first
  abbrev pub view : State S N V W → List (FrameView N V)
  view s = view_frames first_line (visible_frames s)

  abbrev pub frame_numbered : (number : ℕ) → State S N V W → Option (FrameView N V)
  frame_numbered k s = or_else (view_open first_line k (open_frames s)) (view_alone first_line k (frames_in s.generators ++ s.past))

  -- the frames of a traceback, each at the line of its entry
  abbrev pub frames_of_trace : List Entry → State S N V W → List (FrameView N V)
  frames_of_trace [] s = []
  frames_of_trace (e ∷ es) s = at_entry e (frame_numbered e.frame s) (frames_of_trace es s)

  -- the line of the innermost visible frame
  abbrev pub visible_line : State S N V W → ℕ
  visible_line s = line_of_first first_line s.here.frame (visible_frames s)

module _ {S N V W : Type 0} (machine : Machine S V) where
  -- the exception that is active in the run: that of the newest activation with one (Language Reference 7.8)
  abbrev pub active_in : List (Opener S N V W) → Option V
  active_in [] = None
  active_in (o ∷ os) = or_else (machine.active o.activation.state) (active_in os)

  abbrev pub active : State S N V W → Option V
  active s = or_else (machine.active s.here.state) (active_in s.openers)

  abbrev pub here_of : State S N V W → Here V
  here_of s = record { frame = s.here.frame.number; block = s.here.frame.block; active = active s }

-- a write to a frame
pub data Change (N V : Type 0) : Type 0 where
  new_names : N → Change N V
  new_trace : Option V → Change N V
  new_lines : Bool → Change N V

abbrev pub names_by : {N V : Type 0} → Change N V → N → N
names_by (new_names n) m = n
names_by c m = m

abbrev pub trace_by : {N V : Type 0} → Change N V → Option V → Option V
trace_by (new_trace f) g = f
trace_by c g = g

abbrev pub lines_by : {N V : Type 0} → Change N V → Bool → Bool
lines_by (new_lines b) a = b
lines_by c a = a

-- the frame with a number is changed, wherever it is
module _ {N V : Type 0} (number : ℕ) (change : Change N V) where
  abbrev pub change_one : Frame N V → Frame N V
  change_one f = record f {
    names = if f.number == number then names_by change f.names else f.names;
    trace = if f.number == number then trace_by change f.trace else f.trace;
    traces_lines = if f.number == number then lines_by change f.traces_lines else f.traces_lines;
  }

  abbrev pub change_activation : {S : Type 0} → Activation S N V → Activation S N V
  change_activation a = in_frame (change_one a.frame) a

  abbrev pub change_generator : {S : Type 0} → Generator S N V → Generator S N V
  change_generator (fresh a) = fresh (change_activation a)
  change_generator (suspended a y) = suspended (change_activation a) y
  change_generator running = running
  change_generator finished = finished

  abbrev pub change_opener : {S W : Type 0} → Opener S N V W → Opener S N V W
  change_opener o = record o { activation = change_activation o.activation }

  abbrev pub change_frame : {S W : Type 0} → State S N V W → State S N V W
  change_frame s = record s {
    here = change_activation s.here;
    openers = map change_opener s.openers;
    generators = map change_generator s.generators;
    past = map change_one s.past;
  }
