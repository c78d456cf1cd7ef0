use Rattle.pt_refine_expr.proofs.Agreement.{agreed}
use Rattle.pt_refine_expr.proofs.OnePass.{agrees-args, agrees-exp, agrees-opt, agrees-params, agrees-target, agrees-targets}
use Rattle.pt_refine_expr.proofs.StatementOnePass.{agrees-stm, agrees-stms}
use Rattle.pt_refine_expr.proofs.laws.a_tree_has_a_fault_or_is_narrow.Goals as goal

pub returns-clause-expression : goal.returns-clause-expression
returns-clause-expression c = λ n e. agreed (agrees-exp n e)

pub returns-clause-optional : goal.returns-clause-optional
returns-clause-optional c = λ n o. agreed (agrees-opt n o)

pub returns-clause-arguments : goal.returns-clause-arguments
returns-clause-arguments c = λ n args. agreed (agrees-args n args)

pub returns-clause-parameters : goal.returns-clause-parameters
returns-clause-parameters c = λ n ps. agreed (agrees-params n ps)

pub returns-clause-target : goal.returns-clause-target
returns-clause-target c = λ n s e. agreed (agrees-target n s e)

pub returns-clause-targets : goal.returns-clause-targets
returns-clause-targets c = λ n s es. agreed (agrees-targets n s es)

pub returns-clause-statement : goal.returns-clause-statement
returns-clause-statement c = λ n s. agreed (agrees-stm n s)

pub returns-clause-statements : goal.returns-clause-statements
returns-clause-statements c = λ n ss. agreed (agrees-stms n ss)
