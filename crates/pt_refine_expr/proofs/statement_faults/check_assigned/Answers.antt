use Rattle.std.proofs.Common.{arith}
use Rattle.std.proofs.lemmas.Grind.{common_steps}
use Rattle.pt_refine_expr.proofs.Stops.{first-both}
use Rattle.pt_refine_expr.proofs.statement_faults.check_assigned.Goals as goal

pub returns-in_err-check_target : goal.returns-in_err-check_target
returns-in_err-check_target c = grind (arith, common_steps, first-both)

pub loop-target-preserved : goal.loop-target-preserved
loop-target-preserved c = grind (arith, common_steps, first-both)
