use Rattle.pt_sizes.proofs.Adding.{empty_push}
use Rattle.pt_sizes.proofs.waiting.levels_of_none.Goals as goal

pub loop-size-preserved : goal.loop-size-preserved
loop-size-preserved c = empty_push c.args.count c.loop-size.size c.loop-size.levels c.push.new.self c.in_ok-level_of_none.field-0 c.loop-size.invariant c.in_ok-level_of_none.ensures
    c.in_ok-push.ensures.items
