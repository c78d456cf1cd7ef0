use Rattle.std.proofs.Common.{ap, sym, arith}
use Rattle.std.proofs.lemmas.Grind.{common_steps}
use Rattle.pt_tree.proofs.StatementFolds.{branch_of-parts, handler_of-parts, stm_of-Expr, stm_of-Assign, stm_of-Augmented, stm_of-Annotated, stm_of-Assert, stm_of-Del, stm_of-Return, stm_of-Raise, stm_of-With, stm_of-Def, stm_of-Class, stm_of-Try, stm_of-If, stm_of-While, stm_of-For}
use Rattle.sem_compile.specs.stm_pieces.Needed.{goes_on}
use Rattle.pt_exits.proofs.fall_through.+fall_through.Goals as goal

pub goes_on-returns-in-Expr : goal.goes_on-returns-in-Expr
goes_on-returns-in-Expr t c = sym (ap (λ st. goes_on st) (stm_of-Expr c.args.s.now _ c.in-Expr.is))

pub goes_on-returns-in-Assign : goal.goes_on-returns-in-Assign
goes_on-returns-in-Assign t c = sym (ap (λ st. goes_on st) (stm_of-Assign c.args.s.now _ _ c.in-Assign.is))

pub goes_on-returns-in-Augmented : goal.goes_on-returns-in-Augmented
goes_on-returns-in-Augmented t c = sym (ap (λ st. goes_on st) (stm_of-Augmented c.args.s.now _ _ _ c.in-Augmented.is))

pub goes_on-returns-in-Annotated : goal.goes_on-returns-in-Annotated
goes_on-returns-in-Annotated t c = sym (ap (λ st. goes_on st) (stm_of-Annotated c.args.s.now _ _ _ c.in-Annotated.is))

pub goes_on-returns-in-Assert : goal.goes_on-returns-in-Assert
goes_on-returns-in-Assert t c = sym (ap (λ st. goes_on st) (stm_of-Assert c.args.s.now _ _ c.in-Assert.is))

pub goes_on-returns-in-Del : goal.goes_on-returns-in-Del
goes_on-returns-in-Del t c = sym (ap (λ st. goes_on st) (stm_of-Del c.args.s.now _ c.in-Del.is))

pub goes_on-returns-in-Return : goal.goes_on-returns-in-Return
goes_on-returns-in-Return t c = sym (ap (λ st. goes_on st) (stm_of-Return c.args.s.now _ c.in-Return.is))

pub goes_on-returns-in-Raise : goal.goes_on-returns-in-Raise
goes_on-returns-in-Raise t c = sym (ap (λ st. goes_on st) (stm_of-Raise c.args.s.now _ _ c.in-Raise.is))

pub goes_on-returns-in-With : goal.goes_on-returns-in-With
goes_on-returns-in-With t c = sym (ap (λ st. goes_on st) (stm_of-With c.args.s.now _ _ c.in-With.is))

pub goes_on-returns-in-Def : goal.goes_on-returns-in-Def
goes_on-returns-in-Def t c = sym (ap (λ st. goes_on st) (stm_of-Def c.args.s.now _ _ _ _ _ _ _ c.in-Def.is))

pub goes_on-returns-in-Class : goal.goes_on-returns-in-Class
goes_on-returns-in-Class t c = sym (ap (λ st. goes_on st) (stm_of-Class c.args.s.now _ _ _ _ _ _ c.in-Class.is))

pub goes_on-returns-then-some_branch_goes_on : goal.goes_on-returns-then-some_branch_goes_on
goes_on-returns-then-some_branch_goes_on t c = grind (arith, stm_of-If c.args.s.now _ _ c.in-If.is)

pub goes_on-returns-then-some_exits : goal.goes_on-returns-then-some_exits
goes_on-returns-then-some_exits t c = grind (arith, stm_of-While c.args.s.now _ _ _ c.in-While.is)

pub goes_on-returns-else-some_exits : goal.goes_on-returns-else-some_exits
goes_on-returns-else-some_exits t c = grind (arith, stm_of-While c.args.s.now _ _ _ c.in-While.is)

pub goes_on-returns-then-some_exits-2 : goal.goes_on-returns-then-some_exits-2
goes_on-returns-then-some_exits-2 t c = grind (arith, stm_of-For c.args.s.now _ _ _ _ c.in-For.is)

pub goes_on-returns-else-some_exits-2 : goal.goes_on-returns-else-some_exits-2
goes_on-returns-else-some_exits-2 t c = grind (arith, stm_of-For c.args.s.now _ _ _ _ c.in-For.is)

pub some_branch_goes_on-loop-branch-preserved : goal.some_branch_goes_on-loop-branch-preserved
some_branch_goes_on-loop-branch-preserved t c = grind (arith, common_steps, branch_of-parts c.branch-item.result)

pub some_branch_goes_on-returns-then-all_go_on : goal.some_branch_goes_on-returns-then-all_go_on
some_branch_goes_on-returns-then-all_go_on t c = grind (arith, common_steps, branch_of-parts c.branch-item.result)

pub some_handler_goes_on-loop-handler-preserved : goal.some_handler_goes_on-loop-handler-preserved
some_handler_goes_on-loop-handler-preserved t c = grind (arith, common_steps, handler_of-parts c.handler-item.result)

pub some_handler_goes_on-returns-then-is_bound : goal.some_handler_goes_on-returns-then-is_bound
some_handler_goes_on-returns-then-is_bound t c = grind (arith, common_steps, handler_of-parts c.handler-item.result)

pub goes_on-returns-in-Try : goal.goes_on-returns-in-Try
goes_on-returns-in-Try t c = grind (arith, stm_of-Try c.args.s.now _ _ _ _ c.in-Try.is)
