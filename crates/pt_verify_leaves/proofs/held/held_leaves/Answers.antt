use Rattle.std.proofs.Common.{subst, arith}
use Rattle.std.proofs.lemmas.Result.{IfOk-weaker}
use Rattle.pt_step_graph.specs.Graph.{bundles_of}
use Rattle.pt_verify_leaves.specs.Search.{HasSearched}
use Rattle.pt_verify_leaves.proofs.Blocks.{knows, held_of}
use Rattle.pt_verify_leaves.proofs.held.held_leaves.Goals as goal

pub returns : goal.returns
returns c = IfOk-weaker c.search.result _ _ (λ told s code block view v shown count tells more are lead t.
    let sizes = c.args.sizes.now in
    let tops = c.in_ok-tops.tops in
    let end = c.min-end.result in
    held_of code block view v c.args.places.now shown sizes c.args.limit.0 are lead c.args.joins.now.nodes.items t tops
    (c.in_ok-tops.ensures t.joins t.count t.tells) end
    (λ pc lt le. omega (arith, lt, le, c.min-end.ensures))
    (λ pc lt. omega (arith, lt, c.min-end.ensures))
    (bundles_of told.bundles) told.held.items
    (subst (λ ks. HasSearched c.args.places.now block.handlers ks tops.count sizes end (bundles_of told.bundles) told.held.items) c.deref.ensures.value
    (s block.handlers (knows code block view v c.args.places.now shown count c.args.takers.now tells more)))) c.search.ensures
