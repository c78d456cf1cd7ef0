use Rattle.std.proofs.Common.{arith}
use Rattle.std.proofs.lemmas.Grind.{common_steps}
use Rattle.pt_wide.proofs.StatementFolds.{branch_of-parts, handler_of-parts, stm_of-Assign, stm_of-Augmented, stm_of-Annotated, stm_of-Assert, stm_of-Pass, stm_of-Del, stm_of-Return, stm_of-Raise, stm_of-RaiseAgain, stm_of-Break, stm_of-Continue, stm_of-Import, stm_of-ImportFrom, stm_of-Global, stm_of-Nonlocal, stm_of-If, stm_of-While, stm_of-For, stm_of-Try, stm_of-With, stm_of-Def, stm_of-Class}
use Rattle.pt_refine_expr.proofs.Stops.{first-both}
use Rattle.pt_refine_expr.proofs.statement_faults.+statements.Goals as goal

pub check_statement-returns-in_err-check_assigned-in-Assign : goal.check_statement-returns-in_err-check_assigned-in-Assign
check_statement-returns-in_err-check_assigned-in-Assign t c = grind (arith, first-both, stm_of-Assign c.args.s.now _ _ c.in-Assign.is)

pub check_statement-returns-in_ok-check_assigned-in-Assign : goal.check_statement-returns-in_ok-check_assigned-in-Assign
check_statement-returns-in_ok-check_assigned-in-Assign t c = grind (arith, first-both, stm_of-Assign c.args.s.now _ _ c.in-Assign.is)

pub check_statement-returns-in_err-check_place-in-Augmented : goal.check_statement-returns-in_err-check_place-in-Augmented
check_statement-returns-in_err-check_place-in-Augmented t c = grind (arith, first-both, stm_of-Augmented c.args.s.now _ _ _ c.in-Augmented.is)

pub check_statement-returns-in_ok-check_place-in-Augmented : goal.check_statement-returns-in_ok-check_place-in-Augmented
check_statement-returns-in_ok-check_place-in-Augmented t c = grind (arith, first-both, stm_of-Augmented c.args.s.now _ _ _ c.in-Augmented.is)

pub check_statement-returns-in_err-check_place-in-Annotated : goal.check_statement-returns-in_err-check_place-in-Annotated
check_statement-returns-in_err-check_place-in-Annotated t c = grind (arith, first-both, stm_of-Annotated c.args.s.now _ _ _ c.in-Annotated.is)

pub check_statement-returns-in_err-check_expression-in-Annotated : goal.check_statement-returns-in_err-check_expression-in-Annotated
check_statement-returns-in_err-check_expression-in-Annotated t c = grind (arith, first-both, stm_of-Annotated c.args.s.now _ _ _ c.in-Annotated.is)

pub check_statement-returns-in_ok-check_expression-in-Annotated : goal.check_statement-returns-in_ok-check_expression-in-Annotated
check_statement-returns-in_ok-check_expression-in-Annotated t c = grind (arith, first-both, stm_of-Annotated c.args.s.now _ _ _ c.in-Annotated.is)

pub check_statement-returns-in_err-check_expression-in-Assert : goal.check_statement-returns-in_err-check_expression-in-Assert
check_statement-returns-in_err-check_expression-in-Assert t c = grind (arith, first-both, stm_of-Assert c.args.s.now _ _ c.in-Assert.is)

pub check_statement-returns-in_ok-check_expression-in-Assert : goal.check_statement-returns-in_ok-check_expression-in-Assert
check_statement-returns-in_ok-check_expression-in-Assert t c = grind (arith, first-both, stm_of-Assert c.args.s.now _ _ c.in-Assert.is)

pub check_statement-returns-in-Pass : goal.check_statement-returns-in-Pass
check_statement-returns-in-Pass t c = grind (arith, first-both, stm_of-Pass c.args.s.now c.in-Pass.is)

pub check_statement-returns-in-Del : goal.check_statement-returns-in-Del
check_statement-returns-in-Del t c = grind (arith, first-both, stm_of-Del c.args.s.now _ c.in-Del.is)

pub check_statement-returns-in-Return : goal.check_statement-returns-in-Return
check_statement-returns-in-Return t c = grind (arith, first-both, stm_of-Return c.args.s.now _ c.in-Return.is)

pub check_statement-returns-in_err-check_expression-in-Raise : goal.check_statement-returns-in_err-check_expression-in-Raise
check_statement-returns-in_err-check_expression-in-Raise t c = grind (arith, first-both, stm_of-Raise c.args.s.now _ _ c.in-Raise.is)

pub check_statement-returns-in_ok-check_expression-in-Raise : goal.check_statement-returns-in_ok-check_expression-in-Raise
check_statement-returns-in_ok-check_expression-in-Raise t c = grind (arith, first-both, stm_of-Raise c.args.s.now _ _ c.in-Raise.is)

pub check_statement-returns-in-RaiseAgain : goal.check_statement-returns-in-RaiseAgain
check_statement-returns-in-RaiseAgain t c = grind (arith, first-both, stm_of-RaiseAgain c.args.s.now c.in-RaiseAgain.is)

pub check_statement-returns-in-Break : goal.check_statement-returns-in-Break
check_statement-returns-in-Break t c = grind (arith, first-both, stm_of-Break c.args.s.now c.in-Break.is)

pub check_statement-returns-in-Continue : goal.check_statement-returns-in-Continue
check_statement-returns-in-Continue t c = grind (arith, first-both, stm_of-Continue c.args.s.now c.in-Continue.is)

pub check_statement-returns-in-Import : goal.check_statement-returns-in-Import
check_statement-returns-in-Import t c = grind (arith, first-both, stm_of-Import c.args.s.now _ c.in-Import.is)

pub check_statement-returns-in-ImportFrom : goal.check_statement-returns-in-ImportFrom
check_statement-returns-in-ImportFrom t c = grind (arith, first-both, stm_of-ImportFrom c.args.s.now _ _ _ c.in-ImportFrom.is)

pub check_statement-returns-in-Global : goal.check_statement-returns-in-Global
check_statement-returns-in-Global t c = grind (arith, first-both, stm_of-Global c.args.s.now _ c.in-Global.is)

pub check_statement-returns-in-Nonlocal : goal.check_statement-returns-in-Nonlocal
check_statement-returns-in-Nonlocal t c = grind (arith, first-both, stm_of-Nonlocal c.args.s.now _ c.in-Nonlocal.is)

pub check_statement-returns-in_err-check_branches-in-If : goal.check_statement-returns-in_err-check_branches-in-If
check_statement-returns-in_err-check_branches-in-If t c = grind (arith, first-both, stm_of-If c.args.s.now _ _ c.in-If.is)

pub check_statement-returns-in_ok-check_branches-in-If : goal.check_statement-returns-in_ok-check_branches-in-If
check_statement-returns-in_ok-check_branches-in-If t c = grind (arith, first-both, stm_of-If c.args.s.now _ _ c.in-If.is)

pub check_statement-returns-in_err-check_expression-in-While : goal.check_statement-returns-in_err-check_expression-in-While
check_statement-returns-in_err-check_expression-in-While t c = grind (arith, first-both, stm_of-While c.args.s.now _ _ _ c.in-While.is)

pub check_statement-returns-in_err-check_statements-in-While : goal.check_statement-returns-in_err-check_statements-in-While
check_statement-returns-in_err-check_statements-in-While t c = grind (arith, first-both, stm_of-While c.args.s.now _ _ _ c.in-While.is)

pub check_statement-returns-in_ok-check_statements-in-While : goal.check_statement-returns-in_ok-check_statements-in-While
check_statement-returns-in_ok-check_statements-in-While t c = grind (arith, first-both, stm_of-While c.args.s.now _ _ _ c.in-While.is)

pub check_statement-returns-in_err-check_target-in-For : goal.check_statement-returns-in_err-check_target-in-For
check_statement-returns-in_err-check_target-in-For t c = grind (arith, first-both, stm_of-For c.args.s.now _ _ _ _ c.in-For.is)

pub check_statement-returns-in_err-check_expression-in-For : goal.check_statement-returns-in_err-check_expression-in-For
check_statement-returns-in_err-check_expression-in-For t c = grind (arith, first-both, stm_of-For c.args.s.now _ _ _ _ c.in-For.is)

pub check_statement-returns-in_err-check_statements-in-For : goal.check_statement-returns-in_err-check_statements-in-For
check_statement-returns-in_err-check_statements-in-For t c = grind (arith, first-both, stm_of-For c.args.s.now _ _ _ _ c.in-For.is)

pub check_statement-returns-in_ok-check_statements-in-For : goal.check_statement-returns-in_ok-check_statements-in-For
check_statement-returns-in_ok-check_statements-in-For t c = grind (arith, first-both, stm_of-For c.args.s.now _ _ _ _ c.in-For.is)

pub check_statement-returns-in_err-check_statements-in-Try : goal.check_statement-returns-in_err-check_statements-in-Try
check_statement-returns-in_err-check_statements-in-Try t c = grind (arith, first-both, stm_of-Try c.args.s.now _ _ _ _ c.in-Try.is)

pub check_statement-returns-in_err-check_handlers-in-Try : goal.check_statement-returns-in_err-check_handlers-in-Try
check_statement-returns-in_err-check_handlers-in-Try t c = grind (arith, first-both, stm_of-Try c.args.s.now _ _ _ _ c.in-Try.is)

pub check_statement-returns-in_err-check_statements-in-Try-2 : goal.check_statement-returns-in_err-check_statements-in-Try-2
check_statement-returns-in_err-check_statements-in-Try-2 t c = grind (arith, first-both, stm_of-Try c.args.s.now _ _ _ _ c.in-Try.is)

pub check_statement-returns-in_ok-check_statements-in-Try-2 : goal.check_statement-returns-in_ok-check_statements-in-Try-2
check_statement-returns-in_ok-check_statements-in-Try-2 t c = grind (arith, first-both, stm_of-Try c.args.s.now _ _ _ _ c.in-Try.is)

pub check_statement-returns-in_err-check_items-in-With : goal.check_statement-returns-in_err-check_items-in-With
check_statement-returns-in_err-check_items-in-With t c = grind (arith, first-both, stm_of-With c.args.s.now _ _ c.in-With.is)

pub check_statement-returns-in_ok-check_items-in-With : goal.check_statement-returns-in_ok-check_items-in-With
check_statement-returns-in_ok-check_items-in-With t c = grind (arith, first-both, stm_of-With c.args.s.now _ _ c.in-With.is)

pub check_statement-returns-in_err-check_decorators-in-Def : goal.check_statement-returns-in_err-check_decorators-in-Def
check_statement-returns-in_err-check_decorators-in-Def t c = grind (arith, first-both, stm_of-Def c.args.s.now _ _ _ _ _ _ c.in-Def.is)

pub check_statement-returns-in_err-check_parameters-in-Def : goal.check_statement-returns-in_err-check_parameters-in-Def
check_statement-returns-in_err-check_parameters-in-Def t c = grind (arith, first-both, stm_of-Def c.args.s.now _ _ _ _ _ _ c.in-Def.is)

pub check_statement-returns-in_err-check_value-in-Def : goal.check_statement-returns-in_err-check_value-in-Def
check_statement-returns-in_err-check_value-in-Def t c = grind (arith, first-both, stm_of-Def c.args.s.now _ _ _ _ _ _ c.in-Def.is)

pub check_statement-returns-in_ok-check_value-in-Def : goal.check_statement-returns-in_ok-check_value-in-Def
check_statement-returns-in_ok-check_value-in-Def t c = grind (arith, first-both, stm_of-Def c.args.s.now _ _ _ _ _ _ c.in-Def.is)

pub check_statement-returns-in_err-check_decorators-in-Class : goal.check_statement-returns-in_err-check_decorators-in-Class
check_statement-returns-in_err-check_decorators-in-Class t c = grind (arith, first-both, stm_of-Class c.args.s.now _ _ _ _ _ _ c.in-Class.is)

pub check_statement-returns-in_err-check_base-in-Class : goal.check_statement-returns-in_err-check_base-in-Class
check_statement-returns-in_err-check_base-in-Class t c = grind (arith, first-both, stm_of-Class c.args.s.now _ _ _ _ _ _ c.in-Class.is)

pub check_statement-returns-in_err-check_arguments-in-Class : goal.check_statement-returns-in_err-check_arguments-in-Class
check_statement-returns-in_err-check_arguments-in-Class t c = grind (arith, first-both, stm_of-Class c.args.s.now _ _ _ _ _ _ c.in-Class.is)

pub check_statement-returns-in_ok-check_arguments-in-Class : goal.check_statement-returns-in_ok-check_arguments-in-Class
check_statement-returns-in_ok-check_arguments-in-Class t c = grind (arith, first-both, stm_of-Class c.args.s.now _ _ _ _ _ _ c.in-Class.is)

pub check_statements-returns-in_err-check_statement : goal.check_statements-returns-in_err-check_statement
check_statements-returns-in_err-check_statement t c = grind (arith, first-both, common_steps)

pub check_statements-loop-statement-preserved : goal.check_statements-loop-statement-preserved
check_statements-loop-statement-preserved t c = grind (arith, first-both, common_steps)

pub check_branches-returns-in_err-check_expression : goal.check_branches-returns-in_err-check_expression
check_branches-returns-in_err-check_expression t c = grind (arith, first-both, common_steps, branch_of-parts c.branch-item.result)

pub check_branches-returns-in_err-check_statements : goal.check_branches-returns-in_err-check_statements
check_branches-returns-in_err-check_statements t c = grind (arith, first-both, common_steps, branch_of-parts c.branch-item.result)

pub check_branches-loop-branch-preserved : goal.check_branches-loop-branch-preserved
check_branches-loop-branch-preserved t c = grind (arith, first-both, common_steps, branch_of-parts c.branch-item.result)

pub check_handlers-returns-in_err-check_group : goal.check_handlers-returns-in_err-check_group
check_handlers-returns-in_err-check_group t c = grind (arith, first-both, common_steps, handler_of-parts c.handler-item.result)

pub check_handlers-returns-in_err-check_value : goal.check_handlers-returns-in_err-check_value
check_handlers-returns-in_err-check_value t c = grind (arith, first-both, common_steps, handler_of-parts c.handler-item.result)

pub check_handlers-returns-in_err-check_statements : goal.check_handlers-returns-in_err-check_statements
check_handlers-returns-in_err-check_statements t c = grind (arith, first-both, common_steps, handler_of-parts c.handler-item.result)

pub check_handlers-loop-handler-preserved : goal.check_handlers-loop-handler-preserved
check_handlers-loop-handler-preserved t c = grind (arith, first-both, common_steps, handler_of-parts c.handler-item.result)
