use Rattle.std.proofs.Common.{◌≡◌, drop}
use Rattle.std.specs.Map.{lookup}
use Rattle.std.specs.Str.{bytes_eq}
use Rattle.pt_moves.specs.sem_rows.pt_host.Calls.{parameters_given}
use Rattle.pt_function_rows.proofs.opening.given.Given as goal

abbrev pub invariant-loop-at : goal.invariant-loop-at
invariant-loop-at l = lookup (bytes_eq l.name) (parameters_given l.names l.values) ≡ lookup (bytes_eq l.name) (parameters_given (drop l.at l.names) (drop l.at l.values))
