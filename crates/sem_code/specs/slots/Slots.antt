-- What the machine of code holds in place of a nest of syntax: slots of six kinds, the top first (Library Reference, "dis": the evaluation stack).
use Rattle.std.specs.Prelude.{ℕ, List, [], ◌∷◌, Bool, true, Option, Some, None}
use Rattle.pt_instr.specs.declared.kinds.Kind.{Kind}
use Rattle.pt_instr.specs.declared.kinds.Kind.TheVariants as kind
use Rattle.pt_ranges.specs.declared.handlers.Handler.{Handler}
use Rattle.sem_control.specs.control.Turn.{End}

-- how code leaves a place: by a raise, by a return, or for another place of its block, as a `break` and a `continue` do (7.6 to 7.10)
pub data Abrupt (V : Type 0) : Type 0 where
  raise : V → Abrupt V
  return : V → Abrupt V
  jump_to : (target : ℕ) → Abrupt V

pub data Completion (V : Type 0) : Type 0 where
  normal : Completion V
  by : Abrupt V → Completion V

pub data Slot (V : Type 0) : Type 0 where
  value : V → Slot V
  -- of a variable, for a block that takes it along (4.2.2)
  cell : V → Slot V
  iterator : V → Slot V
  -- what a handler and the tests of handlers are busy with (8.4.1)
  exception : V → Slot V
  -- what a `finally` part and the exit of a `with` hold (8.4.4, 8.5)
  pending : Completion V → Slot V
  -- the `__exit__` of a context manager (8.5)
  exit : V → Slot V

abbrev pub Slots : Type 0 → Type 0
Slots V = List (Slot V)

pub data State (V : Type 0) : Type 0 where
  -- an instruction is next, with these slots
  on : (pc : ℕ) → Slots V → State V
  -- a delegation is next, to which a raise is sent (6.2.9)
  thrown_to : (pc : ℕ) → (exception : V) → Slots V → State V
  -- a raise that was held, or that no handler took, goes on under these rows
  reraises : (exception : V) → (rows : List Handler) → Slots V → State V
  -- the block has ended
  off : End V → State V

abbrev pub kind_of : {V : Type 0} → Slot V → Kind
kind_of (value v) = kind.Value
kind_of (cell v) = kind.Cell
kind_of (iterator v) = kind.Iter
kind_of (exception v) = kind.Exc
kind_of (pending c) = kind.Pending
kind_of (exit v) = kind.With

-- the raise that a completion is
abbrev pub raise_of : {V : Type 0} → Completion V → Option V
raise_of (by (raise v)) = Some v
raise_of c = None

-- what an exit leaves of a completion: a raise that it swallows is none (8.5)
abbrev pub left_of : {V : Type 0} → (is_swallowed : Bool) → Completion V → Completion V
left_of true (by (raise v)) = normal
left_of b c = c

-- the exception that a slot is busy with, and the one that is active by all slots: the uppermost such (8.4.1, 8.4.4)
abbrev pub busy_with : {V : Type 0} → Slot V → Option V
busy_with (exception e) = Some e
busy_with (pending c) = raise_of c
busy_with s = None

abbrev pub or_else : {V : Type 0} → Option V → Option V → Option V
or_else (Some v) o = Some v
or_else None o = o

abbrev pub active : {V : Type 0} → Slots V → Option V
active [] = None
active (s ∷ ss) = or_else (busy_with s) (active ss)
