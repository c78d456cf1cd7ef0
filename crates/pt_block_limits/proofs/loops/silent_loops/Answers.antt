use Rattle.std.proofs.lemmas.Result.{IfOk-weaker}
use Rattle.pt_step_graph.specs.Graph.{bundles_of}
use Rattle.pt_block_limits.proofs.SilentLemmas.{tells_block}
use Rattle.pt_block_limits.proofs.loops.silent_loops.Goals as goal

pub returns : goal.returns
returns c = IfOk-weaker c.cycles_of_steps.result _ _
    (λ told t code view v shown are has. tells_block code c.args.block.now view v c.args.places.now shown c.args.sizes.now are
    (bundles_of c.args.bundles) c.args.held.now has
    c.in_ok-exits.exits.items c.in_ok-exits.ensures c.as_slice.result.now c.as_slice.ensures told t)
    c.cycles_of_steps.ensures
