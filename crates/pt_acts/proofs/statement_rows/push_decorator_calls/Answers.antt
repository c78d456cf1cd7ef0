use Rattle.std.proofs.Common.{arith, append_assoc}
use Rattle.pt_acts.proofs.Behind.{decorator-taken}
use Rattle.pt_acts.proofs.statement_rows.push_decorator_calls.Goals as goal

pub loop-left-preserved : goal.loop-left-preserved
loop-left-preserved c =
    (omega arith, grind (arith, append_assoc, decorator-taken c.args.decorators.now c.loop-left.left c.index-decorators-left.result (omega arith) (omega arith) c.index-decorators-left.is))
