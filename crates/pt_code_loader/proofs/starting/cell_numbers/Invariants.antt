use Rattle.std.proofs.Common.{◌≡◌, ◌++◌, drop, map}
use Rattle.pt_code_tables.specs.pt_builtins.pt_host.Calls.{cells_from}
use Rattle.pt_code_loader.specs.Starting.{cell_numbers}
use Rattle.pt_code_loader.proofs.starting.cell_numbers.Given as goal

abbrev pub invariant-loop-at : goal.invariant-loop-at
invariant-loop-at l = l.numbers ++ map (λ c. c.1) (cells_from l.at (drop l.at l.names)) ≡ cell_numbers l.names
