use Rattle.std.proofs.Common.{ap, sym, arith}
use Rattle.std.proofs.lemmas.Grind.{common_steps}
use Rattle.pt_tree.proofs.StatementFolds.{branch_of-parts, handler_of-parts, stm_of-Expr, stm_of-Assign, stm_of-Augmented, stm_of-Annotated, stm_of-Assert, stm_of-Del, stm_of-Return, stm_of-Raise, stm_of-Import, stm_of-ImportFrom, stm_of-Global, stm_of-Nonlocal, stm_of-Def, stm_of-Class, stm_of-If, stm_of-While, stm_of-For, stm_of-Try, stm_of-With}
use Rattle.sem_compile.specs.stm_pieces.Needed.{exits}
use Rattle.pt_exits.proofs.exits.+exits.Goals as goal

pub exits-returns-in-Expr : goal.exits-returns-in-Expr
exits-returns-in-Expr t c = sym (ap (λ st. exits c.args.exit st) (stm_of-Expr c.args.s.now _ c.in-Expr.is))

pub exits-returns-in-Assign : goal.exits-returns-in-Assign
exits-returns-in-Assign t c = sym (ap (λ st. exits c.args.exit st) (stm_of-Assign c.args.s.now _ _ c.in-Assign.is))

pub exits-returns-in-Augmented : goal.exits-returns-in-Augmented
exits-returns-in-Augmented t c = sym (ap (λ st. exits c.args.exit st) (stm_of-Augmented c.args.s.now _ _ _ c.in-Augmented.is))

pub exits-returns-in-Annotated : goal.exits-returns-in-Annotated
exits-returns-in-Annotated t c = sym (ap (λ st. exits c.args.exit st) (stm_of-Annotated c.args.s.now _ _ _ c.in-Annotated.is))

pub exits-returns-in-Assert : goal.exits-returns-in-Assert
exits-returns-in-Assert t c = sym (ap (λ st. exits c.args.exit st) (stm_of-Assert c.args.s.now _ _ c.in-Assert.is))

pub exits-returns-in-Del : goal.exits-returns-in-Del
exits-returns-in-Del t c = sym (ap (λ st. exits c.args.exit st) (stm_of-Del c.args.s.now _ c.in-Del.is))

pub exits-returns-in-Return : goal.exits-returns-in-Return
exits-returns-in-Return t c = sym (ap (λ st. exits c.args.exit st) (stm_of-Return c.args.s.now _ c.in-Return.is))

pub exits-returns-in-Raise : goal.exits-returns-in-Raise
exits-returns-in-Raise t c = sym (ap (λ st. exits c.args.exit st) (stm_of-Raise c.args.s.now _ _ c.in-Raise.is))

pub exits-returns-in-Import : goal.exits-returns-in-Import
exits-returns-in-Import t c = sym (ap (λ st. exits c.args.exit st) (stm_of-Import c.args.s.now _ c.in-Import.is))

pub exits-returns-in-ImportFrom : goal.exits-returns-in-ImportFrom
exits-returns-in-ImportFrom t c = sym (ap (λ st. exits c.args.exit st) (stm_of-ImportFrom c.args.s.now _ _ c.in-ImportFrom.is))

pub exits-returns-in-Global : goal.exits-returns-in-Global
exits-returns-in-Global t c = sym (ap (λ st. exits c.args.exit st) (stm_of-Global c.args.s.now _ c.in-Global.is))

pub exits-returns-in-Nonlocal : goal.exits-returns-in-Nonlocal
exits-returns-in-Nonlocal t c = sym (ap (λ st. exits c.args.exit st) (stm_of-Nonlocal c.args.s.now _ c.in-Nonlocal.is))

pub exits-returns-in-Def : goal.exits-returns-in-Def
exits-returns-in-Def t c = sym (ap (λ st. exits c.args.exit st) (stm_of-Def c.args.s.now _ _ _ _ _ _ _ c.in-Def.is))

pub exits-returns-in-Class : goal.exits-returns-in-Class
exits-returns-in-Class t c = sym (ap (λ st. exits c.args.exit st) (stm_of-Class c.args.s.now _ _ _ _ _ _ c.in-Class.is))

pub exits-returns-in-While : goal.exits-returns-in-While
exits-returns-in-While t c = grind (arith, stm_of-While c.args.s.now _ _ _ c.in-While.is)

pub exits-returns-in-For : goal.exits-returns-in-For
exits-returns-in-For t c = grind (arith, stm_of-For c.args.s.now _ _ _ _ c.in-For.is)

pub exits-returns-in-With : goal.exits-returns-in-With
exits-returns-in-With t c = grind (arith, stm_of-With c.args.s.now _ _ c.in-With.is)

pub exits-returns-then-some_branch_exits : goal.exits-returns-then-some_branch_exits
exits-returns-then-some_branch_exits t c = grind (arith, stm_of-If c.args.s.now _ _ c.in-If.is)

pub exits-returns-then-some_exits-2 : goal.exits-returns-then-some_exits-2
exits-returns-then-some_exits-2 t c = grind (arith, stm_of-Try c.args.s.now _ _ _ _ c.in-Try.is)

pub some_branch_exits-loop-branch-preserved : goal.some_branch_exits-loop-branch-preserved
some_branch_exits-loop-branch-preserved t c = grind (arith, common_steps, branch_of-parts c.branch-item.result)

pub some_branch_exits-returns-then-some_exits : goal.some_branch_exits-returns-then-some_exits
some_branch_exits-returns-then-some_exits t c = grind (arith, common_steps, branch_of-parts c.branch-item.result)

pub some_handler_exits-loop-handler-preserved : goal.some_handler_exits-loop-handler-preserved
some_handler_exits-loop-handler-preserved t c = grind (arith, common_steps, handler_of-parts c.handler-item.result)

pub some_handler_exits-returns-then-some_exits : goal.some_handler_exits-returns-then-some_exits
some_handler_exits-returns-then-some_exits t c = grind (arith, common_steps, handler_of-parts c.handler-item.result)
