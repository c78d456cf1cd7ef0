use Rattle.std.proofs.Common.{arith}
use Rattle.bench_leaves.proofs.Rising.{one_more}
use Rattle.bench_leaves.proofs.rises.Goals as goal

pub loop-i-preserved : goal.loop-i-preserved
loop-i-preserved c = record {
  low = omega arith;
  rise = one_more c.args.rows.now c.loop-i.i _ c.loop-i.invariant.low c.loop-i.invariant.rise c.if-rows-i.false;
}
