-- The events of sys.monitoring by the numbers of their bits.
use Rattle.std.specs.Prelude.{ℕ, ℤ, Option, Some, None, if◌then◌else◌}
use Rattle.pt_monitor.specs.declared.event.MonEvent.{MonEvent}
use Rattle.pt_monitor.specs.declared.event.MonEvent.TheVariants as event
use Rattle.sem_run.specs.run.Tools.{are_listed, unsigned}

abbrev pub bit_of : MonEvent → ℕ
bit_of event.PyStart = 0
bit_of event.PyResume = 1
bit_of event.PyReturn = 2
bit_of event.PyYield = 3
bit_of event.PyThrow = 4
bit_of event.PyUnwind = 5
bit_of event.Call = 6
bit_of event.CReturn = 7
bit_of event.CRaise = 8
bit_of event.Line = 9
bit_of event.Jump = 10
bit_of event.Branch = 11
bit_of event.Raise = 12
bit_of event.Reraise = 13
bit_of event.ExceptionHandled = 14
bit_of event.StopIteration = 15

-- a number as a set of events, if each of its bits is that of one
abbrev pub listed : ℤ → Option ℕ
listed z = if are_listed (unsigned z) then Some (unsigned z) else None
