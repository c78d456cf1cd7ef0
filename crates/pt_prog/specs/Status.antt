-- The exit status of each end.
use Rattle.std.specs.Prelude.{ℕ}
use Rattle.pt_prog.specs.declared.end.End.{End}
use Rattle.pt_prog.specs.declared.end.End.TheVariants.{Done, Exited, Raised, Usage, Spent, Outside, Refused, TooLong, ReadFault, WriteFault, Memory, Unbuilt, BadCode}

abbrev pub status_of : End → ℕ
status_of Done = 0
status_of (Exited code) = code
status_of Raised = 1
status_of Usage = 2
status_of (Spent acts) = 3
status_of (Outside what line) = 4
status_of (Refused error) = 6
status_of (BadCode error) = 7
status_of (TooLong which) = 8
status_of ReadFault = 9
status_of (WriteFault which) = 10
status_of Memory = 11
status_of (Unbuilt line) = 12
