use Rattle.std.proofs.Common.{arith}
use Rattle.pt_write_simple.proofs.Rules.{calls-taken}
use Rattle.pt_write_simple.proofs.definitions.call_decorators.Goals as goal

pub loop-left-preserved : goal.loop-left-preserved
loop-left-preserved c = record {
  within = omega arith;
  code = grind (
    arith,
    calls-taken c.args.decorators.now c.loop-left.left c.index-decorators-left.result c.loop-left.w
        (omega arith) (omega arith) c.index-decorators-left.is,
  );
}
