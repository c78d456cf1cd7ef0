-- Which act comes next if nothing is raised: the destination of a jump and of a branch (Library Reference, sys.monitoring, "Events").
use Rattle.std.specs.Prelude.{ℕ, zero, suc, Option, Some, None}
use Rattle.sem_control.specs.control.Turn as T
use Rattle.sem_control.specs.control.Turn.{got, Turn, act, note, move, seek, deed}
use Rattle.sem_code.specs.slots.Slots.{State}
use Rattle.sem_code.specs.slots.CodeObject.{CodeObject}
use Rattle.sem_code.specs.slots.Machine.{turn}

module _ {V : Type 0} (code : CodeObject V) where
  -- what is gone through without an act: moves, notes, and unmarked asks for constants and cells and for what binds and unbinds names
  abbrev pub passes : Turn (State V) V → Option (State V)
  passes (move s) = Some s
  passes (note a next) = Some (next (got tt))
  passes (act None (seek (T.const k)) next) = Some (next (got code.null))
  passes (act None (seek (T.cell_of x)) next) = Some (next (got code.null))
  passes (act None (deed (T.store x v)) next) = Some (next (got tt))
  passes (act None (deed (T.delete x)) next) = Some (next (got tt))
  passes (act None (deed (T.fresh x)) next) = Some (next (got tt))
  passes t = None

  abbrev behind : State V → Option (State V) → State V
  behind s None = s
  behind s (Some t) = t

  -- a state behind at most so many of them
  abbrev pub unhindered : (most : ℕ) → State V → State V
  unhindered zero s = s
  unhindered (suc n) s = unhindered n (behind s (passes (turn code s)))

  abbrev number_of : Turn (State V) V → Option ℕ
  number_of (act (Some m) a next) = Some m.act
  number_of t = None

  -- none where the block ends, or where something else comes first
  abbrev pub destination : (most : ℕ) → State V → Option ℕ
  destination n s = number_of (turn code (unhindered n s))
