use Rattle.std.proofs.Common.{◌≡◌, ◌++◌, drop}
use Rattle.pt_tree.specs.StatementFold.{decorators_of}
use Rattle.pt_tree.specs.Acts.{acts_decorators}
use Rattle.pt_acts.proofs.statement_rows.push_decorators.Given as goal

abbrev pub invariant-loop-decorator : goal.invariant-loop-decorator
invariant-loop-decorator l = l.rows ++ acts_decorators (decorators_of (drop l.decorator-index l.decorators)) ≡ l.fn.rows ++ acts_decorators (decorators_of l.decorators)
