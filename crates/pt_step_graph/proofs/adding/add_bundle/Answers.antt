use Rattle.std.proofs.Common.{◌∙◌, refl, get_or}
use Rattle.pt_step_graph.proofs.Lists.{within_more}
use Rattle.pt_step_graph.proofs.adding.add_bundle.Goals as goal

pub loop-number-preserved : goal.loop-number-preserved
loop-number-preserved c = c.in_ok-add_place.ensures
    ∙ within_more c.args.count c.args.places.now c.loop-number.number c.args.work.now.items c.loop-number.work.items
    (get_or c.args.places.now c.loop-number.number 0) c.loop-number-test.true c.loop-number.invariant refl
