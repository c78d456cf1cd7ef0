use Rattle.std.proofs.Common.{◌≡◌, ◌++◌, length, map}
use Rattle.pt_block_calls.specs.pt_operators.pt_moves.sem_rows.pt_host.Arguments.{entry_argument}
use Rattle.pt_call_rows.proofs.roles.push_entries.Given as goal

abbrev pub invariant-loop-entry : goal.invariant-loop-entry
invariant-loop-entry l = l.named ++ map (entry_argument l.heap) l.entries ≡ l.fn.named ++ map (entry_argument l.heap) l.dict

abbrev pub decreases-loop-entry : goal.decreases-loop-entry
decreases-loop-entry l = length l.entries
