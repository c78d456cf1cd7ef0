use Rattle.std.proofs.Common.{sym}
use Rattle.pt_monitor.proofs.ToolRows.{row_read}
use Rattle.pt_monitor.proofs.rows.tool_at.Goals as goal

pub returns : goal.returns
returns c = sym (row_read c.args.tools.now c.args.at c.index-tools-at.result c.requires c.index-tools-at.is)
