use Rattle.std.proofs.Common.{arith, append_assoc}
use Rattle.std.proofs.lemmas.Grind.{common_steps}
use Rattle.pt_tree.proofs.StatementFolds.{branch_of-parts, handler_of-parts, stm_of-Annotated, stm_of-Def, stm_of-Class}
use Rattle.pt_acts.proofs.statement_rows.+rows.Goals as goal

pub push_branches-loop-branch-preserved : goal.push_branches-loop-branch-preserved
push_branches-loop-branch-preserved t c = grind (arith, common_steps, append_assoc, branch_of-parts c.branch-item.result)

pub push_handlers-loop-handler-preserved : goal.push_handlers-loop-handler-preserved
push_handlers-loop-handler-preserved t c = grind (arith, common_steps, append_assoc, handler_of-parts c.handler-item.result)

pub push_statement-returns-in-Annotated : goal.push_statement-returns-in-Annotated
push_statement-returns-in-Annotated t c = grind (arith, stm_of-Annotated c.args.s.now _ _ _ c.in-Annotated.is)

pub push_statement-returns-in_ok-push_decorator_calls-in-Def : goal.push_statement-returns-in_ok-push_decorator_calls-in-Def
push_statement-returns-in_ok-push_decorator_calls-in-Def t c = grind (arith, append_assoc, stm_of-Def c.args.s.now _ _ _ _ _ _ _ c.in-Def.is)

pub push_statement-returns-in_ok-push_decorator_calls-in-Class : goal.push_statement-returns-in_ok-push_decorator_calls-in-Class
push_statement-returns-in_ok-push_decorator_calls-in-Class t c = grind (arith, append_assoc, stm_of-Class c.args.s.now _ _ _ _ _ _ c.in-Class.is)
