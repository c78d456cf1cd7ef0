use Rattle.std.proofs.Common.{arith}
use Rattle.std.proofs.lemmas.Grind.{common_steps}
use Rattle.pt_tree.proofs.StatementFolds.{branch_of-parts, handler_of-parts, stm_of-Annotated, stm_of-Class, stm_of-Def}
use Rattle.pt_scopes.proofs.Behind.{behind-both, behind-class, behind-function, behind-nothing}
use Rattle.pt_scopes.proofs.statements.+statements.Goals as goal

pub branches-loop-branch-preserved : goal.branches-loop-branch-preserved
branches-loop-branch-preserved t c = grind (arith, common_steps, behind-both, branch_of-parts c.branch-item.result)

pub branches-returns : goal.branches-returns
branches-returns t c = grind (arith, common_steps, behind-nothing)

pub handlers-loop-handler-preserved : goal.handlers-loop-handler-preserved
handlers-loop-handler-preserved t c = grind (arith, common_steps, behind-both, handler_of-parts c.handler-item.result)

pub handlers-returns : goal.handlers-returns
handlers-returns t c = grind (arith, common_steps, behind-nothing)

pub statements-loop-s-preserved : goal.statements-loop-s-preserved
statements-loop-s-preserved t c = grind (arith, common_steps, behind-both)

pub statements-returns : goal.statements-returns
statements-returns t c = grind (arith, common_steps, behind-nothing)

pub statement-returns-in_ok-place-in-Annotated : goal.statement-returns-in_ok-place-in-Annotated
statement-returns-in_ok-place-in-Annotated t c = grind (arith, stm_of-Annotated c.args.s.now _ _ _ c.in-Annotated.is, behind-both)

pub statement-returns-in_ok-parameters-in-Def : goal.statement-returns-in_ok-parameters-in-Def
statement-returns-in_ok-parameters-in-Def t c = grind (arith, stm_of-Def c.args.s.now _ _ _ _ _ _ _ c.in-Def.is, behind-both, behind-function)

pub statement-returns-in_ok-optional-in-Class : goal.statement-returns-in_ok-optional-in-Class
statement-returns-in_ok-optional-in-Class t c = grind (arith, stm_of-Class c.args.s.now _ _ _ _ _ _ c.in-Class.is, behind-both, behind-class)
