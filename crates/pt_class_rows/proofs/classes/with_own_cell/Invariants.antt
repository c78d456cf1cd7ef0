use Rattle.std.proofs.Common.{◌≡◌, ◌++◌, drop}
use Rattle.pt_moves.specs.sem_rows.pt_host.Classes.{with_own_cell}
use Rattle.pt_class_rows.proofs.classes.with_own_cell.Given as goal

abbrev pub invariant-loop-at : goal.invariant-loop-at
invariant-loop-at l = l.numbers ++ with_own_cell l.cell (drop l.at l.frees) (drop l.at l.along) ≡ with_own_cell l.cell l.frees l.along
