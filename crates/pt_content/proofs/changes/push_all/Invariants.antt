use Rattle.std.proofs.Common.{◌≡◌, ◌++◌, length, map, reverse, take}
use Rattle.pt_content.specs.Changes.{made, room_from}
use Rattle.pt_content.proofs.changes.push_all.Given as goal

abbrev pub invariant-loop-object : goal.invariant-loop-object
invariant-loop-object l = record {
  whole : l.heap ++ map made (reverse l.left) ≡ l.fn.heap ++ map made (reverse l.fn.objects);
  stays : take (length l.fn.heap) l.heap ≡ l.fn.heap;
  room : room_from (length l.heap) (reverse l.left) ≡ room_from (length l.fn.heap) (reverse l.fn.objects);
}

abbrev pub decreases-loop-object : goal.decreases-loop-object
decreases-loop-object l = length l.left
