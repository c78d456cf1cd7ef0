use Rattle.std.proofs.Common.{arith}
use Rattle.std.proofs.lemmas.Grind.{common_steps}
use Rattle.pt_tree.proofs.StatementFolds.{branch_of-parts, handler_of-parts, stm_of-Annotated, stm_of-Def, stm_of-Class}
use Rattle.pt_act_counts.proofs.Sums.{annotated-is}
use Rattle.pt_act_counts.proofs.statements.+counts.Goals as goal

pub count_branches-loop-branch-preserved : goal.count_branches-loop-branch-preserved
count_branches-loop-branch-preserved t c = grind (arith, common_steps, branch_of-parts c.branch-item.result)

pub count_handlers-loop-handler-preserved : goal.count_handlers-loop-handler-preserved
count_handlers-loop-handler-preserved t c = grind (arith, common_steps, handler_of-parts c.handler-item.result)

pub count_statement-returns-in-Annotated : goal.count_statement-returns-in-Annotated
count_statement-returns-in-Annotated t c = grind (arith, annotated-is, stm_of-Annotated c.args.s.now _ _ _ c.in-Annotated.is)

pub count_statement-returns-in_ok-count_parameters-in-Def : goal.count_statement-returns-in_ok-count_parameters-in-Def
count_statement-returns-in_ok-count_parameters-in-Def t c = grind (arith, stm_of-Def c.args.s.now _ _ _ _ _ _ _ c.in-Def.is)

pub count_statement-returns-in_ok-count_optional-in-Class : goal.count_statement-returns-in_ok-count_optional-in-Class
count_statement-returns-in_ok-count_optional-in-Class t c = grind (arith, stm_of-Class c.args.s.now _ _ _ _ _ _ c.in-Class.is)
