use Rattle.std.proofs.Common.{◌≡◌, ◌++◌, length, drop}
use Rattle.pt_function_rows.specs.Openings.{numbers_from, given_cells}
use Rattle.pt_function_rows.proofs.opening.make_cells.Given as goal

abbrev pub invariant-loop-name : goal.invariant-loop-name
invariant-loop-name l = record {
  numbers : l.numbers ++ numbers_from (length l.cells) (drop l.name-index l.facts.cells) ≡ numbers_from (length l.fn.cells) l.facts.cells;
  cells : l.cells ++ given_cells l.facts l.values (drop l.name-index l.facts.cells) ≡ l.fn.cells ++ given_cells l.facts l.values l.facts.cells;
}
