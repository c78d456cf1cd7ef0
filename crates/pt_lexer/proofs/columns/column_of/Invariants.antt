use Rattle.std.proofs.Common.{◌≡◌, ◌≤◌, ◌*◌, drop}
use Rattle.pt_lexer.specs.Lines.{column_from, column_of}
use Rattle.pt_lexer.proofs.columns.column_of.Given as goal

abbrev pub invariant-loop-spot : goal.invariant-loop-spot
invariant-loop-spot l = record {
  column : column_from l.column (drop l.spot-index l.text) ≡ column_of l.text;
  wide : l.column.wide ≤ 8 * l.spot-index;
  narrow : l.column.narrow ≤ l.spot-index;
}
