use Rattle.std.proofs.Common.{◌≡◌, ◌++◌, drop}
use Rattle.pt_moves.specs.sem_rows.pt_host.Calls.{defaults_of}
use Rattle.pt_function_rows.proofs.arguments.bindings.Given as goal

abbrev pub invariant-loop-at : goal.invariant-loop-at
invariant-loop-at l = l.bindings ++ defaults_of (drop l.at l.names) (drop l.at l.values) ≡ defaults_of l.names l.values
