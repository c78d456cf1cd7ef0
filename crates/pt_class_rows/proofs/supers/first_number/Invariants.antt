use Rattle.std.proofs.Common.{◌≡◌, drop}
use Rattle.std.specs.Map.{lookup}
use Rattle.std.specs.Str.{bytes_eq}
use Rattle.pt_moves.specs.sem_rows.heap_rows.Views.{paired}
use Rattle.pt_class_rows.proofs.supers.first_number.Given as goal

abbrev pub invariant-loop-at : goal.invariant-loop-at
invariant-loop-at l = lookup (bytes_eq l.name) (paired l.names l.numbers) ≡ lookup (bytes_eq l.name) (paired (drop l.at l.names) (drop l.at l.numbers))
