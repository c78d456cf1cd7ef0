-- A host answers what depends on values, over any values V, names N of an activation and worlds W. It need not answer at once: it
-- may have blocks run, generators go on, and the calls of sys done by the run, and go on with what these give, as often as it
-- needs.
use Rattle.std.specs.Prelude.{ℕ, ℤ, List, Bool, Option}
use Rattle.pt_base.specs.declared.what.What.{What}
use Rattle.sem_control.specs.control.Turn as T
use Rattle.sem_control.specs.control.Turn.{Ask, Answer, Role, End}
use Rattle.sem_run.specs.run.Machine.{BlockId, Reason}
use Rattle.sem_run.specs.run.Events.{Event}
use Rattle.sem_run.specs.run.Tools.{ToolCall, ToolAnswer}

-- what an activation's asks read and change: its names, and the world of objects, cells and global names
pub record Store (N W : Type 0) : Type 0 where
  pub names : N
  pub world : W

-- a block is to run with names that are bound already; a generator expression's has its iterator
pub record Opening (N V : Type 0) : Type 0 where
  pub block : BlockId
  pub iterator : Option V
  pub names : N

-- how a block that ran has ended, and its names
pub record BlockResult (N V : Type 0) : Type 0 where
  pub end : End V
  pub names : N

-- how a generator is to go on (Language Reference 6.2.9)
pub data How (V : Type 0) : Type 0 where
  by_next : How V
  by_send : V → How V
  by_throw : V → How V
  by_close : How V

-- why it doesn't: it runs already, it hasn't started and a value other than None is sent to it, or it is finished
pub data Obstacle : Type 0 where
  is_running : Obstacle
  is_fresh : Obstacle
  is_finished : Obstacle

-- what came of it: it gave a value on, its block ended, or it didn't go on. To one that hasn't started and one that is finished
-- nothing can be thrown: it arises where that was tried; and there is nothing to close
pub data GeneratorResult (V : Type 0) : Type 0 where
  gives_on : V → GeneratorResult V
  ends_by : End V → GeneratorResult V
  cannot : Obstacle → GeneratorResult V
  throws_back : V → GeneratorResult V
  nothing_to_close : GeneratorResult V

-- a frame: its number and block, its names, the line of its last act, its local trace function, whether lines are traced in it
-- (`f_trace`, `f_trace_lines`), and whether it is a generator's
pub record Frame (N V : Type 0) : Type 0 where
  pub number : ℕ
  pub block : BlockId
  pub names : N
  pub line : Option ℕ
  pub trace : Option V
  pub traces_lines : Bool
  pub of_generator : Bool

-- a frame as it is looked at: its line is that of the block's head before its first act, and the frame behind it is the next
-- visible open one
pub record FrameView (N V : Type 0) : Type 0 where
  pub frame : Frame N V
  pub line : ℕ
  pub back : Option ℕ

-- what a host has the run do
pub data Request (N V : Type 0) : Type 0 where
  -- a block runs in an activation of its own
  opens : Opening N V → Request N V
  -- a generator is made of one; a generator goes on
  makes : Opening N V → Request N V
  resumes : (generator : ℕ) → How V → Request N V
  -- sys.settrace and sys.gettrace; the calls of sys.monitoring
  gives_trace : Option V → Request N V
  trace : Request N V
  calls_tools : ToolCall V → Request N V
  -- the visible open frames, the newest first (sys._getframe); a frame
  frames : Request N V
  frame : (number : ℕ) → Request N V
  -- a frame's names, its `f_trace`, `f_trace_lines` and `f_lineno` are written
  gives_frame_names : (number : ℕ) → N → Request N V
  gives_frame_trace : (number : ℕ) → Option V → Request N V
  gives_frame_lines : (number : ℕ) → Bool → Request N V
  jumps_to : (number : ℕ) → (line : ℤ) → Request N V

-- what it is given for that
abbrev pub Response : (N V : Type 0) → Request N V → Type 0
Response N V (opens o) = BlockResult N V
Response N V (makes o) = ℕ
Response N V (resumes g h) = GeneratorResult V
Response N V (gives_trace f) = Unit {0}
Response N V trace = Option V
Response N V (calls_tools c) = ToolAnswer V
Response N V frames = List ℕ
Response N V (frame k) = Option (FrameView N V)
Response N V (gives_frame_names k n) = Unit {0}
Response N V (gives_frame_trace k f) = Unit {0}
Response N V (gives_frame_lines k b) = Unit {0}
Response N V (jumps_to k l) = Option Reason

-- an answer in the making: it is there, an exception stands in its place, something is printed first, the run leaves the profile
-- of the language, or something is to be done first
pub data Answering (N V W A : Type 0) : Type 0 where
  answer : A → Store N W → Answering N V W A
  raise : V → Store N W → Answering N V W A
  print : (text : List ℕ) → Answering N V W A → Answering N V W A
  leave : What → Answering N V W A
  request : (r : Request N V) → Store N W → (Response N V r → Store N W → Answering N V W A) → Answering N V W A

-- the next item of an iterator, or that there is none; the exception by which a generator or an instance said so
pub data Item (V : Type 0) : Type 0 where
  an_item : V → Item V
  no_item : (stop : Option V) → Item V

-- what the iterator of a delegation did: it gave a value on, or it ended with one
pub data Passing (V : Type 0) : Type 0 where
  passes_on : V → Passing V
  ends_with : V → Passing V

-- what a host finds for an ask. A `yield` it isn't asked
abbrev pub Finding : (V : Type 0) → Ask V → Type 0
Finding V (T.next_of i) = Item V
Finding V (T.delegate i r) = Passing V
Finding V a = Answer V a

-- where something is asked: in which frame and block, and the exception that is active in the run
pub record Here (V : Type 0) : Type 0 where
  pub frame : ℕ
  pub block : BlockId
  pub active : Option V

-- what is told of a call: the first positional argument, or MISSING, and whether a builtin is called
pub record Callee (V : Type 0) : Type 0 where
  pub first : V
  pub is_builtin : Bool

-- exceptions that a run makes: 1,000 activations are open; a generator is closed, in which this one arises later; a StopIteration
-- left a generator (PEP 479); a callback answered DISABLE at an event that has no place of its own
pub data Failure (V : Type 0) : Type 0 where
  too_deep : Failure V
  generator_exit : Failure V
  stop_iteration : (stop : V) → Failure V
  not_local : Failure V

-- what comes of making one: it is there, or the run leaves the profile of the language
pub data Made (V W : Type 0) : Type 0 where
  made : V → W → Made V W
  beyond : What → Made V W

-- an exception came to a frame of a block at this line, for its traceback
pub record Entry : Type 0 where
  pub frame : ℕ
  pub block : BlockId
  pub line : ℕ

-- what an exception is that leaves the module: an exit with a status and perhaps a text, one with another value, or an error with
-- the entries of its traceback, the oldest frame first
pub data Leaving : Type 0 where
  exits : (status : ℕ) → (text : Option (List ℕ)) → Leaving
  exits_oddly : Leaving
  fails : List Entry → Leaving

-- who is told of an event, in the order in which they are asked: the log, a debugger, the tools by their ids, the trace function
pub data Hook : Type 0 where
  log : Hook
  debugger : Hook
  -- a debugger is told what came of its jump: it landed on a line, or it was refused
  landing : (line : ℕ) → Hook
  refusal : Reason → Hook
  tool : (id : ℕ) → Hook
  tracer : Hook

pub record Host (N V W : Type 0) : Type 0 where
  -- the line that stands for a frame's line before its first act (`co_firstlineno`)
  pub first_line : BlockId → ℕ
  pub null : V
  -- the answer to an ask; and what comes of calling a hook's function with the arguments of an event
  pub answers : (a : Ask V) → Here V → Store N W → Answering N V W (Finding V a)
  pub hears : Hook → (function : V) → Event V → Here V → Store N W → Answering N V W V
  -- nothing for None; DISABLE; a StopIteration
  pub unless_null : V → Option V
  pub is_disable : V → Bool
  pub is_stop : V → W → Bool
  pub callee : (callee : V) → List Role → (arguments : List V) → W → Callee V
  -- an exception is made; one that was thrown to a generator arises in it, so it gets the one that is active as its context
  -- (Language Reference 7.8); one gets an entry of its traceback; one leaves the module
  pub makes : Failure V → Here V → W → Made V W
  pub arises : (exception : V) → Here V → W → W
  pub enters : (exception : V) → Entry → W → W
  pub leaving : (exception : V) → W → Leaving
  -- an activation's names as it is left: what is bound later in their cells doesn't change them
  pub names_left : N → W → N
  -- the line of the log for an event
  pub log_line : Event V → W → List ℕ
