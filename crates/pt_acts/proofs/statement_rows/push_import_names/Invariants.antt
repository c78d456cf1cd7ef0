use Rattle.std.proofs.Common.{◌≡◌, ◌++◌, drop}
use Rattle.pt_tree.specs.Acts.{acts_import_names}
use Rattle.pt_acts.proofs.statement_rows.push_import_names.Given as goal

abbrev pub invariant-loop : goal.invariant-loop
invariant-loop l = l.rows ++ acts_import_names l.line.0 (drop l.index l.names) ≡ l.fn.rows ++ acts_import_names l.line.0 l.names
