use Rattle.std.proofs.Common.{◌++◌}
use Rattle.pt_breakpoints_text.specs.BreakpointList.{row_text, rows_text}
use Rattle.pt_breakpoints_text.proofs.ListLemmas.{one_more}
use Rattle.pt_breakpoints_text.proofs.breakpoint_list.push_rows.Goals as goal

pub loop-breakpoint-preserved : goal.loop-breakpoint-preserved
loop-breakpoint-preserved c =
    one_more (row_text c.args.file.now) c.args.rows.now c.loop-breakpoint.breakpoint-index c.breakpoint-item.result c.loop-breakpoint.out.items c.push_row.new.out.items
    (c.args.out.now.items ++ rows_text c.args.file.now c.args.rows.now) c.loop-breakpoint-test.true c.breakpoint-item.is c.loop-breakpoint.invariant
    c.in_ok-push_row.ensures
