use Rattle.std.proofs.Common.{◌≡◌, ◌-◌, ◌++◌, map, take}
use Rattle.pt_views.specs.Unpacking.{entry_item}
use Rattle.pt_views.proofs.items.first_entries.Given as goal

abbrev pub invariant-loop-taken : goal.invariant-loop-taken
invariant-loop-taken l = l.items ++ map (entry_item l.part) (take (l.most - l._taken) l.left) ≡ map (entry_item l.part) (take l.most l.fn.left)
