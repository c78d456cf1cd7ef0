use Rattle.std.proofs.Common.{◌≡◌, ◌++◌, length}
use Rattle.pt_command_files.specs.CommandFile.{command_lines}
use Rattle.pt_command_files.proofs.command_file.command_lines.Given as goal

abbrev pub invariant-loop-at : goal.invariant-loop-at
invariant-loop-at l = l.lines ++ command_lines l.rest ≡ command_lines l.file

abbrev pub decreases-loop-at : goal.decreases-loop-at
decreases-loop-at l = length l.rest
