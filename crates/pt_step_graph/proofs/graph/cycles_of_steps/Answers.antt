use Rattle.std.proofs.Common.{arith}
use Rattle.std.proofs.lemmas.Result.{IfOk-weaker}
use Rattle.pt_step_graph.specs.Graph.{ways}
use Rattle.pt_step_graph.proofs.Ways.{told_of}
use Rattle.pt_step_graph.proofs.graph.cycles_of_steps.Goals as goal

pub returns : goal.returns
returns c = IfOk-weaker c.least_on_cycle.result _ _
    (λ told t. told_of (ways c.args.exits c.args.bundles c.args.rows.now) c.in_ok-graph.graph c.in_ok-graph.ensures c.len-count.result
    (omega (arith, c.len-count.ensures)) told t)
    c.least_on_cycle.ensures
