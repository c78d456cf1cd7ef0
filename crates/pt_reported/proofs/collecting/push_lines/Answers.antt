use Rattle.pt_reported.proofs.ReportedLemmas.{lines_further}
use Rattle.pt_reported.proofs.collecting.push_lines.Goals as goal

pub loop-act-preserved : goal.loop-act-preserved
loop-act-preserved c =
    lines_further c.args.acts.now c.loop-act.act c.args.lines.now.items c.loop-act.lines.items _ c.in_ok-push_line.ensures c.loop-act.invariant
