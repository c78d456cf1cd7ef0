use Rattle.std.proofs.Common.{◌≡◌, ◌++◌, drop}
use Rattle.pt_names.specs.Names.{name_value}
use Rattle.pt_moves.specs.sem_rows.heap_rows.Views.{paired}
use Rattle.pt_class_rows.proofs.supers.local_value.Given as goal

abbrev pub invariant-loop-at : goal.invariant-loop-at
invariant-loop-at l = name_value l.name (paired l.names l.values ++ l.own) ≡ name_value l.name (paired (drop l.at l.names) (drop l.at l.values) ++ l.own)
