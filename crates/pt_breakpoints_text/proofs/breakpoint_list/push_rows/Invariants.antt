use Rattle.std.proofs.Common.{◌≡◌, ◌++◌, drop}
use Rattle.pt_breakpoints_text.specs.BreakpointList.{rows_text}
use Rattle.pt_breakpoints_text.proofs.breakpoint_list.push_rows.Given as goal

abbrev pub invariant-loop-breakpoint : goal.invariant-loop-breakpoint
invariant-loop-breakpoint l = l.out.items ++ rows_text l.file (drop l.breakpoint-index l.rows) ≡ l.fn.out.items ++ rows_text l.file l.rows
