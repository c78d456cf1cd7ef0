use Rattle.std.proofs.Common.{◌≡◌, map, drop}
use Rattle.sem_code.specs.slots.Instructions.{role_of}
use Rattle.pt_block_calls.specs.pt_operators.pt_moves.sem_rows.pt_host.Arguments.{are_arguments}
use Rattle.pt_call_rows.proofs.roles.are_arguments.Given as goal

abbrev pub invariant-loop-at : goal.invariant-loop-at
invariant-loop-at l = are_arguments l.heap (map role_of (drop l.at l.names)) (drop l.at l.values) ≡ are_arguments l.heap (map role_of l.names) l.values
