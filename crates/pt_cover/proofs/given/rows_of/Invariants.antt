use Rattle.std.proofs.Common.{◌≡◌, ◌++◌, [], map}
use Rattle.pt_cover.specs.Tallies.{line_row}
use Rattle.pt_cover.proofs.given.rows_of.Given as goal

abbrev pub invariant-loop-line : goal.invariant-loop-line
invariant-loop-line l = l.rows.items ++ map (line_row []) l.line-iterator ≡ map (line_row []) l.lines.keys
