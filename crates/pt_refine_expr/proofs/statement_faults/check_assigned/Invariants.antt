use Rattle.std.proofs.Common.{◌≡◌, drop, map}
use Rattle.pt_wide.specs.Fold.{all_of, exp_of}
use Rattle.pt_refine_expr.specs.StatementFaults.{faults_assigned}
use Rattle.pt_refine_expr.specs.First.{first_of}
use Rattle.pt_refine_expr.proofs.statement_faults.check_assigned.Given as goal

abbrev pub invariant-loop-target : goal.invariant-loop-target
invariant-loop-target l = first_of (faults_assigned (all_of (map exp_of (drop l.target-index l.targets)))) ≡ first_of (faults_assigned (all_of (map exp_of l.targets)))
