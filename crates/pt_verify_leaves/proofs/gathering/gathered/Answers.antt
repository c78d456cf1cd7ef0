use Rattle.std.proofs.Common.{arith}
use Rattle.pt_step_graph.specs.Graph.{bundles_of}
use Rattle.pt_closure.specs.Closure.{Pair}
use Rattle.pt_verify_leaves.proofs.Gathers.{gathered_more}
use Rattle.pt_verify_leaves.proofs.gathering.gathered.Goals as goal

pub loop-at-preserved : goal.loop-at-preserved
loop-at-preserved c =
    let none : Pair = (0, 0) in
    gathered_more c.args.count c.args.pairs.now c.loop-at.at (bundles_of c.loop-at.lists) (bundles_of c.put.new.lists)
    none (omega (arith, c.loop-at-test.true)) c.loop-at.invariant c.in_ok-put.ensures
