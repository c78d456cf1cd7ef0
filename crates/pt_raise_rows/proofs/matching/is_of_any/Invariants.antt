use Rattle.std.proofs.Common.{◌≡◌, drop}
use Rattle.std.specs.List.{list_any}
use Rattle.pt_moves.specs.sem_rows.pt_host.Leaving.{error_at}
use Rattle.pt_moves.specs.sem_rows.pt_host.Raising.{is_of_class}
use Rattle.pt_raise_rows.proofs.matching.is_of_any.Given as goal

abbrev pub invariant-loop-class : goal.invariant-loop-class
invariant-loop-class l = list_any (is_of_class l.heap (error_at l.heap l.exception)) (drop l.class-index l.classes) ≡ list_any (is_of_class l.heap (error_at l.heap l.exception)) l.classes
