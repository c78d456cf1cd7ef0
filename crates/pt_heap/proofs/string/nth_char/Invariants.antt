use Rattle.std.proofs.Common.{◌≡◌, ◌+◌, length}
use Rattle.pt_heap.proofs.string.nth_char.Given as goal

abbrev pub invariant-loop-c : goal.invariant-loop-c
invariant-loop-c l = l.left + length l.yielded ≡ l.place
