use Rattle.std.proofs.Common.{◌≡◌, drop}
use Rattle.std.specs.List.{list_all}
use Rattle.pt_moves.specs.sem_rows.pt_host.Raising.{is_exception_class}
use Rattle.pt_raise_rows.proofs.matching.are_exception_classes.Given as goal

abbrev pub invariant-loop-value : goal.invariant-loop-value
invariant-loop-value l = list_all (is_exception_class l.heap) (drop l.value-index l.values) ≡ list_all (is_exception_class l.heap) l.values
