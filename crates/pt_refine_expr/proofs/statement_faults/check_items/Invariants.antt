use Rattle.std.proofs.Common.{◌≡◌, drop}
use Rattle.pt_wide.specs.StatementFold.{items_of}
use Rattle.pt_refine_expr.specs.StatementFaults.{faults_items}
use Rattle.pt_refine_expr.specs.First.{first_of}
use Rattle.pt_refine_expr.proofs.statement_faults.check_items.Given as goal

abbrev pub invariant-loop-item : goal.invariant-loop-item
invariant-loop-item l = first_of (faults_items (items_of (drop l.item-index l.items))) ≡ first_of (faults_items (items_of l.items))
