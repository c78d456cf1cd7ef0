use Rattle.std.proofs.Common.{◌≡◌, ◌++◌, ◌≤◌, length, take}
use Rattle.pt_tree.specs.StatementFold.{items_of}
use Rattle.pt_acts.specs.Parts.{acts_left}
use Rattle.pt_acts.proofs.statement_rows.push_left.Given as goal

abbrev pub invariant-loop-left : goal.invariant-loop-left
invariant-loop-left l = (l.left ≤ length l.items) × (l.rows ++ acts_left (items_of (take l.left l.items)) ≡ l.fn.rows ++ acts_left (items_of l.items))

abbrev pub decreases-loop-left : goal.decreases-loop-left
decreases-loop-left l = l.left
