use Rattle.std.proofs.Common.{◌≡◌, ◌++◌, ◌≤◌, length, take}
use Rattle.pt_tree.specs.StatementFold.{decorators_of}
use Rattle.pt_tree.specs.Acts.{acts_decorator_calls}
use Rattle.pt_acts.proofs.statement_rows.push_decorator_calls.Given as goal

abbrev pub invariant-loop-left : goal.invariant-loop-left
invariant-loop-left l = (l.left ≤ length l.decorators) × (l.rows ++ acts_decorator_calls (decorators_of (take l.left l.decorators)) ≡ l.fn.rows ++ acts_decorator_calls (decorators_of l.decorators))

abbrev pub decreases-loop-left : goal.decreases-loop-left
decreases-loop-left l = l.left
