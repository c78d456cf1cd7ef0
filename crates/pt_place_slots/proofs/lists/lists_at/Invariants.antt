use Rattle.pt_place_slots.specs.Lists.{AreListed}
use Rattle.pt_place_slots.proofs.lists.lists_at.Given as goal

abbrev pub invariant-loop-at : goal.invariant-loop-at
invariant-loop-at l = AreListed l.kinds l.places l.at l.table.items
