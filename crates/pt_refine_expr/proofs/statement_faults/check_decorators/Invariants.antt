use Rattle.std.proofs.Common.{◌≡◌, drop}
use Rattle.pt_wide.specs.StatementFold.{decorators_of}
use Rattle.pt_refine_expr.specs.StatementFaults.{faults_decorators}
use Rattle.pt_refine_expr.specs.First.{first_of}
use Rattle.pt_refine_expr.proofs.statement_faults.check_decorators.Given as goal

abbrev pub invariant-loop-decorator : goal.invariant-loop-decorator
invariant-loop-decorator l = first_of (faults_decorators (decorators_of (drop l.decorator-index l.decorators))) ≡ first_of (faults_decorators (decorators_of l.decorators))
