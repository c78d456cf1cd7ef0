use Rattle.pt_refine_expr.proofs.OnePass.{agrees-exp}
use Rattle.pt_refine_expr.proofs.StatementOnePass.{agrees-stms}
use Rattle.pt_refine_expr.proofs.laws.one_pass_makes_the_tree_or_stops_at_its_first_fault.Goals as goal

pub returns-clause-expression : goal.returns-clause-expression
returns-clause-expression c = agrees-exp

pub returns-clause-statements : goal.returns-clause-statements
returns-clause-statements c = agrees-stms
