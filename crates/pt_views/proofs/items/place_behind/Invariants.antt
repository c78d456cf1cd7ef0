use Rattle.std.proofs.Common.{◌≡◌, drop}
use Rattle.pt_views.specs.Unpacking.{place_behind}
use Rattle.pt_views.proofs.items.place_behind.Given as goal

abbrev pub invariant-loop-item : goal.invariant-loop-item
invariant-loop-item l = place_behind (drop l.item-index l.items) l.at ≡ place_behind l.items l.place
