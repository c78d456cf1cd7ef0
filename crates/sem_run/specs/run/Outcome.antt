-- What comes of a run: what it writes and tells, in order, and how it ends (Library Reference, sys.exit; the bound and the
-- profile are the program's own).
use Rattle.std.specs.Prelude.{ℕ, List, Option}
use Rattle.pt_base.specs.declared.what.What.{What}
use Rattle.sem_control.specs.control.Turn.{Mark}
use Rattle.sem_run.specs.run.Machine.{BlockId, Reason}
use Rattle.sem_run.specs.run.Events.{Event}
use Rattle.sem_run.specs.run.Host.{FrameView}
use Rattle.sem_run.specs.run.State.{Telling, State}

pub data Output (V : Type 0) : Type 0 where
  -- an act of a block begins, and takes a unit
  begins : BlockId → Mark → Output V
  -- something is printed
  prints : (text : List ℕ) → Output V
  -- an event is given; the log has a line for it; a debugger replies
  gives : Event V → Output V
  logs : (text : List ℕ) → Output V
  replies : (text : List ℕ) → Output V
  -- a debugger's jump is refused
  refuses : (line : ℕ) → Reason → Output V

-- what a debugger sees
pub record View (N V W : Type 0) : Type 0 where
  pub frames : List (FrameView N V)
  pub world : W

pub data Ending (N V W : Type 0) : Type 0 where
  done : Ending N V W
  exited : (status : ℕ) → (text : Option (List ℕ)) → Ending N V W
  -- an exception left the module; the frames of its traceback, the oldest first, each at the line of its entry
  raised : V → View N V W → Ending N V W
  -- all units are taken, and another act would begin
  spent : Ending N V W
  -- the run left the profile of the language, at this line of the innermost visible frame
  outside : What → (line : ℕ) → Ending N V W
  quit : Ending N V W

-- what a debugger is asked about: an event, or what came of its jump at one
pub data Question (V : Type 0) : Type 0 where
  about : Event V → Question V
  about_landing : (line : ℕ) → Question V
  about_refusal : Reason → Question V

pub data Advice : Type 0 where
  go : Advice
  jump_to : (line : ℕ) → Advice
  give_up : Advice

-- a step goes on, or a debugger's advice is wanted on an event that is told, or the run ends
pub data Step (S N V W : Type 0) : Type 0 where
  goes : List (Output V) → State S N V W → Step S N V W
  consults : Question V → Telling S V → State S N V W → Step S N V W
  ends : Ending N V W → Step S N V W
  is_stuck : Step S N V W
