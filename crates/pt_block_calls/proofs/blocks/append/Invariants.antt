use Rattle.std.proofs.Common.{◌≡◌, ◌++◌, take}
use Rattle.pt_block_calls.proofs.blocks.append.Given as goal

abbrev pub invariant-loop-value : goal.invariant-loop-value
invariant-loop-value l = l.values ≡ l.fn.values ++ take l.value-index l.others
