use Rattle.std.proofs.Common.{arith}
use Rattle.std.proofs.lemmas.Grind.{common_steps}
use Rattle.pt_refine_expr.proofs.Stops.{first-both}
use Rattle.pt_refine_expr.proofs.statement_faults.check_decorators.Goals as goal

pub returns-in_err-check_expression : goal.returns-in_err-check_expression
returns-in_err-check_expression c = grind (arith, common_steps, first-both)

pub loop-decorator-preserved : goal.loop-decorator-preserved
loop-decorator-preserved c = grind (arith, common_steps, first-both)
