use Rattle.pt_place_slots.proofs.Listing.{lists_more}
use Rattle.pt_place_slots.proofs.lists.lists_at.Goals as goal

pub loop-at-preserved : goal.loop-at-preserved
loop-at-preserved c = lists_more c.args.kinds.now c.args.places.now c.loop-at.at c.loop-at.table.items c.push.new.self.items c.in_ok-listed_at.field-0
    c.loop-at.invariant c.in_ok-push.ensures.items c.in_ok-listed_at.ensures.exact c.in_ok-listed_at.ensures.listed
