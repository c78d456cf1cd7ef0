use Rattle.std.proofs.Common.{◌∙◌, ap, get_or, arith}
use Rattle.pt_place_slots.specs.Lists.{held_up_to}
use Rattle.pt_place_slots.proofs.Held.{held_more}
use Rattle.pt_place_slots.proofs.lists.held_of_lists.Goals as goal

pub loop-list-preserved : goal.loop-list-preserved
loop-list-preserved c =
    let n = c.index-node.result.now in
    held_more c.args.forest.now c.requires c.loop-list.held.items c.loop-list.list n (omega (arith, c.loop-list-test.true, c.len-list-end.ensures))
    c.index-node.ensures c.loop-list.invariant c.push.new.self.items c.held_up_to.result c.in_ok-push.ensures.items
    (c.held_up_to.ensures ∙ ap (held_up_to n.kind n.length) (c.held_in.ensures ∙ ap (λ xs. get_or xs n.parent 0) c.deref.ensures.value))
