-- What is told of a run (PEP 669; Library Reference, sys.monitoring and sys.settrace).
use Rattle.std.specs.Prelude.{ℕ, Bool, true, false, not, Option, Some, None}
use Rattle.sem_run.specs.run.Machine.{BlockId}

pub data Happening (V : Type 0) : Type 0 where
  -- a block starts; a generator goes on by `next` or `send`
  starts : Happening V
  resumes : Happening V
  -- a block returns; a generator gives a value on
  returns : V → Happening V
  yields : V → Happening V
  -- a generator goes on by `throw` or `close`; an exception leaves a block
  throws : V → Happening V
  unwinds : V → Happening V
  -- before a call, and behind that of a builtin, which returned or raised: what is called, and the first positional argument
  calls : (callee first : V) → Happening V
  returns_from : (callee first : V) → Happening V
  raises_from : (callee first : V) → Happening V
  -- a line begins; whether a jump came before it
  line : (behind_jump : Bool) → Happening V
  -- a `break` or `continue`, and a decision that was taken, with the act that comes next
  jumps : (destination : ℕ) → Happening V
  branches : (destination : ℕ) → Happening V
  -- an exception arises or arrives; it goes on; a handler takes it
  raises : V → Happening V
  raises_again : V → Happening V
  handled : V → Happening V
  -- an exception ends an iterator
  stops : V → Happening V

-- the number of its bit in sets of events
abbrev pub bit : {V : Type 0} → Happening V → ℕ
bit starts = 0
bit resumes = 1
bit (returns v) = 2
bit (yields v) = 3
bit (throws v) = 4
bit (unwinds v) = 5
bit (calls f a) = 6
bit (returns_from f a) = 7
bit (raises_from f a) = 8
bit (line j) = 9
bit (jumps d) = 10
bit (branches d) = 11
bit (raises v) = 12
bit (raises_again v) = 13
bit (handled v) = 14
bit (stops v) = 15

-- what happens where: the frame and its line, the block, the act that runs or the last one done, and whether the frame is a
-- generator's
pub record Event (V : Type 0) : Type 0 where
  pub what : Happening V
  pub frame : ℕ
  pub block : BlockId
  pub act : ℕ
  pub line : ℕ
  pub of_generator : Bool

-- the four kinds of sys.settrace
pub data TraceKind : Type 0 where
  a_call : TraceKind
  a_line : TraceKind
  a_return : TraceKind
  an_exception : TraceKind

abbrev pub trace_kind : {V : Type 0} → Happening V → Option TraceKind
trace_kind starts = Some a_call
trace_kind resumes = Some a_call
trace_kind (throws v) = Some a_call
trace_kind (line j) = Some a_line
trace_kind (returns v) = Some a_return
trace_kind (yields v) = Some a_return
trace_kind (unwinds v) = Some a_return
trace_kind (raises v) = Some an_exception
trace_kind h = None

abbrev pub is_line : {V : Type 0} → Happening V → Bool
is_line (line j) = true
is_line h = false

-- a debugger is asked at these four kinds, but not at a line that comes behind a jump
abbrev pub has_kind : Option TraceKind → Bool
has_kind (Some k) = true
has_kind None = false

abbrev pub is_for_debugger : {V : Type 0} → Happening V → Bool
is_for_debugger (line j) = not j
is_for_debugger h = has_kind (trace_kind h)
