use Rattle.std.proofs.Common.{◌≡◌, ◌++◌, drop}
use Rattle.pt_break_commands.specs.BreakCommands.{all_deleted_text}
use Rattle.pt_break_commands.proofs.commands.push_deleted.Given as goal

abbrev pub invariant-loop-breakpoint : goal.invariant-loop-breakpoint
invariant-loop-breakpoint l = l.out.items ++ all_deleted_text l.file (drop l.breakpoint-index l.rows) ≡ l.fn.out.items ++ all_deleted_text l.file l.rows
