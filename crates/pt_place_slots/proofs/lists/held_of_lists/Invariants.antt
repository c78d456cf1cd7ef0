use Rattle.pt_place_slots.proofs.Held.{HeldBelow}
use Rattle.pt_place_slots.proofs.lists.held_of_lists.Given as goal

abbrev pub invariant-loop-list : goal.invariant-loop-list
invariant-loop-list l = HeldBelow l.forest l.held.items l.list
