use Rattle.std.proofs.Common.{◌≡◌, ◌++◌, drop}
use Rattle.pt_tree.specs.StatementFold.{items_of}
use Rattle.pt_acts.specs.Parts.{acts_entered}
use Rattle.pt_acts.proofs.statement_rows.push_entered.Given as goal

abbrev pub invariant-loop-item : goal.invariant-loop-item
invariant-loop-item l = l.rows ++ acts_entered (items_of (drop l.item-index l.items)) ≡ l.fn.rows ++ acts_entered (items_of l.items)
