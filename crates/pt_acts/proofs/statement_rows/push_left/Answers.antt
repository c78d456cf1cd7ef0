use Rattle.std.proofs.Common.{arith, append_assoc}
use Rattle.pt_acts.proofs.Behind.{item-taken}
use Rattle.pt_acts.proofs.statement_rows.push_left.Goals as goal

pub loop-left-preserved : goal.loop-left-preserved
loop-left-preserved c =
    (omega arith, grind (arith, append_assoc, item-taken c.args.items.now c.loop-left.left c.index-items-left.result (omega arith) (omega arith) c.index-items-left.is))
