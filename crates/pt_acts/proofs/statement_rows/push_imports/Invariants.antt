use Rattle.std.proofs.Common.{◌≡◌, ◌++◌, drop}
use Rattle.pt_tree.specs.Acts.{acts_imports}
use Rattle.pt_acts.proofs.statement_rows.push_imports.Given as goal

abbrev pub invariant-loop : goal.invariant-loop
invariant-loop l = l.rows ++ acts_imports l.line.0 (drop l.index l.names) ≡ l.fn.rows ++ acts_imports l.line.0 l.names
