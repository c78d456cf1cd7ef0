use Rattle.std.proofs.Common.{◌++◌}
use Rattle.pt_break_commands.specs.BreakCommands.{all_deleted_text, deleted_text}
use Rattle.pt_breakpoints_text.proofs.ListLemmas.{one_more}
use Rattle.pt_break_commands.proofs.commands.push_deleted.Goals as goal

pub loop-breakpoint-preserved : goal.loop-breakpoint-preserved
loop-breakpoint-preserved c =
    one_more (deleted_text c.args.file.now) c.args.rows.now c.loop-breakpoint.breakpoint-index c.breakpoint-item.result c.loop-breakpoint.out.items
    c.push_break_answer.new.out.items (c.args.out.now.items ++ all_deleted_text c.args.file.now c.args.rows.now) c.loop-breakpoint-test.true c.breakpoint-item.is
    c.loop-breakpoint.invariant c.in_ok-push_break_answer.ensures
