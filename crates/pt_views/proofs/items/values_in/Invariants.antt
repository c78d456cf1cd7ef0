use Rattle.std.proofs.Common.{◌≡◌, ◌++◌, drop}
use Rattle.pt_views.specs.Unpacking.{values_in}
use Rattle.pt_views.proofs.items.values_in.Given as goal

abbrev pub invariant-loop-item : goal.invariant-loop-item
invariant-loop-item l = l.values ++ values_in l.at (drop l.item-index l.items) ≡ values_in l.place l.items
