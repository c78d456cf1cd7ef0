use Rattle.std.proofs.Common.{◌≡◌, ◌++◌, drop}
use Rattle.pt_views.specs.Unpacking.{new_in}
use Rattle.pt_views.proofs.items.new_in.Given as goal

abbrev pub invariant-loop-item : goal.invariant-loop-item
invariant-loop-item l = l.objects ++ new_in (drop l.item-index l.items) ≡ new_in l.items
