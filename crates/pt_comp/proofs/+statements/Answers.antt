use Rattle.std.proofs.Common.{arith}
use Rattle.std.proofs.lemmas.Grind.{common_steps}
use Rattle.pt_tree.proofs.StatementFolds.{branch_of-parts, handler_of-parts, stm_of-Annotated, stm_of-Assert, stm_of-Assign, stm_of-Augmented, stm_of-Break, stm_of-Class, stm_of-Continue, stm_of-Def, stm_of-Del, stm_of-Expr, stm_of-For, stm_of-Global, stm_of-If, stm_of-Import, stm_of-ImportFrom, stm_of-Nonlocal, stm_of-Pass, stm_of-Raise, stm_of-RaiseAgain, stm_of-Return, stm_of-Try, stm_of-While, stm_of-With}
use Rattle.pt_write_simple.proofs.pt_stm_forms.SimpleForms.{expr-form, assign-form, augmented-form, annotated-form, assert-form, pass-form, del-form, return-form, raise-form, raise_again-form, break-form, continue-form, import-form, import_from-form, global-form, nonlocal-form, def-form, class-form}
use Rattle.pt_write_simple.proofs.pt_stm_forms.ContextForms.{with-form}
use Rattle.pt_write_simple.proofs.pt_stm_forms.CompoundForms.{choice-form, while-form, for-form, suite-act}
use Rattle.pt_write_simple.proofs.pt_stm_forms.TryForms.{try-form}
use Rattle.pt_comp.proofs.Rules.{caught-is, guarded-none, guarded-some, last-number, new_label-place, none-size}
use Rattle.pt_comp.proofs.+statements.Goals as goal

pub statements::statement-returns-in-Expr : goal.statements::statement-returns-in-Expr
statements::statement-returns-in-Expr t c = grind (arith, expr-form, stm_of-Expr c.args.s.now _ c.in-Expr.is)

pub statements::statement-returns-in-Assign : goal.statements::statement-returns-in-Assign
statements::statement-returns-in-Assign t c = grind (arith, assign-form, stm_of-Assign c.args.s.now _ _ c.in-Assign.is)

pub statements::statement-returns-in-Augmented : goal.statements::statement-returns-in-Augmented
statements::statement-returns-in-Augmented t c = grind (arith, augmented-form, stm_of-Augmented c.args.s.now _ _ _ c.in-Augmented.is)

pub statements::statement-returns-in-Annotated : goal.statements::statement-returns-in-Annotated
statements::statement-returns-in-Annotated t c = grind (arith, annotated-form, stm_of-Annotated c.args.s.now _ _ _ c.in-Annotated.is)

pub statements::statement-returns-in-Assert : goal.statements::statement-returns-in-Assert
statements::statement-returns-in-Assert t c = grind (arith, assert-form, stm_of-Assert c.args.s.now _ _ c.in-Assert.is)

pub statements::statement-returns-in-Pass : goal.statements::statement-returns-in-Pass
statements::statement-returns-in-Pass t c = grind (arith, pass-form, stm_of-Pass c.args.s.now c.in-Pass.is)

pub statements::statement-returns-in-Del : goal.statements::statement-returns-in-Del
statements::statement-returns-in-Del t c = grind (arith, del-form, stm_of-Del c.args.s.now _ c.in-Del.is)

pub statements::statement-returns-in-Return : goal.statements::statement-returns-in-Return
statements::statement-returns-in-Return t c = grind (arith, return-form, stm_of-Return c.args.s.now _ c.in-Return.is)

pub statements::statement-returns-in-Raise : goal.statements::statement-returns-in-Raise
statements::statement-returns-in-Raise t c = grind (arith, raise-form, stm_of-Raise c.args.s.now _ _ c.in-Raise.is)

pub statements::statement-returns-in-RaiseAgain : goal.statements::statement-returns-in-RaiseAgain
statements::statement-returns-in-RaiseAgain t c = grind (arith, raise_again-form, stm_of-RaiseAgain c.args.s.now c.in-RaiseAgain.is)

pub statements::statement-returns-in-Break : goal.statements::statement-returns-in-Break
statements::statement-returns-in-Break t c = grind (arith, break-form, stm_of-Break c.args.s.now c.in-Break.is)

pub statements::statement-returns-in-Continue : goal.statements::statement-returns-in-Continue
statements::statement-returns-in-Continue t c = grind (arith, continue-form, stm_of-Continue c.args.s.now c.in-Continue.is)

pub statements::statement-returns-in-Import : goal.statements::statement-returns-in-Import
statements::statement-returns-in-Import t c = grind (arith, import-form, stm_of-Import c.args.s.now _ c.in-Import.is)

pub statements::statement-returns-in-ImportFrom : goal.statements::statement-returns-in-ImportFrom
statements::statement-returns-in-ImportFrom t c = grind (arith, import_from-form, stm_of-ImportFrom c.args.s.now _ _ c.in-ImportFrom.is)

pub statements::statement-returns-in-Global : goal.statements::statement-returns-in-Global
statements::statement-returns-in-Global t c = grind (arith, global-form, stm_of-Global c.args.s.now _ c.in-Global.is)

pub statements::statement-returns-in-Nonlocal : goal.statements::statement-returns-in-Nonlocal
statements::statement-returns-in-Nonlocal t c = grind (arith, nonlocal-form, stm_of-Nonlocal c.args.s.now _ c.in-Nonlocal.is)

pub statements::statement-returns-in-With : goal.statements::statement-returns-in-With
statements::statement-returns-in-With t c = grind (arith, with-form, stm_of-With c.args.s.now _ _ c.in-With.is)

pub statements::statement-returns-in-Def : goal.statements::statement-returns-in-Def
statements::statement-returns-in-Def t c = grind (arith, def-form, stm_of-Def c.args.s.now _ _ _ _ _ _ _ c.in-Def.is)

pub statements::statement-returns-in-Class : goal.statements::statement-returns-in-Class
statements::statement-returns-in-Class t c = grind (arith, class-form, stm_of-Class c.args.s.now _ _ _ _ _ _ c.in-Class.is)

pub choices::branches_code-loop-branch-preserved : goal.choices::branches_code-loop-branch-preserved
choices::branches_code-loop-branch-preserved t c = grind (arith, common_steps, branch_of-parts c.branch-item.result)

pub tries::each_handler-loop-handler-preserved : goal.tries::each_handler-loop-handler-preserved
tries::each_handler-loop-handler-preserved t c = grind (arith, common_steps, handler_of-parts c.handler-item.result)

pub statements::statement-returns-in_ok-suite_code-in-If : goal.statements::statement-returns-in_ok-suite_code-in-If
statements::statement-returns-in_ok-suite_code-in-If t c = grind (arith, choice-form, stm_of-If c.args.s.now _ _ c.in-If.is)

pub statements::statement-returns-in_ok-suite_code-in-While : goal.statements::statement-returns-in_ok-suite_code-in-While
statements::statement-returns-in_ok-suite_code-in-While t c = grind (arith, while-form, stm_of-While c.args.s.now _ _ _ c.in-While.is)

pub statements::statement-returns-in_ok-suite_code-in-For : goal.statements::statement-returns-in_ok-suite_code-in-For
statements::statement-returns-in_ok-suite_code-in-For t c = grind (arith, for-form, stm_of-For c.args.s.now _ _ _ _ c.in-For.is)

pub statements::statement-returns-then-as_slice-eq0 : goal.statements::statement-returns-then-as_slice-eq0
statements::statement-returns-then-as_slice-eq0 t c = grind (arith, try-form, stm_of-Try c.args.s.now _ _ _ _ c.in-Try.is, guarded-none, none-size, suite-act)

pub statements::statement-returns-in_ok-each_handler-in-Try : goal.statements::statement-returns-in_ok-each_handler-in-Try
statements::statement-returns-in_ok-each_handler-in-Try t c = grind (arith, try-form, stm_of-Try c.args.s.now _ _ _ _ c.in-Try.is, guarded-some, caught-is, new_label-place, last-number)
