use Rattle.std.proofs.Common.{ap, sym, arith}
use Rattle.pt_tree.proofs.StatementFolds.{stm_of-Expr, stm_of-Assign, stm_of-Augmented, stm_of-Annotated, stm_of-Assert, stm_of-Return, stm_of-Raise, stm_of-While, stm_of-For, stm_of-Try, stm_of-Def, stm_of-Class, stm_of-If, stm_of-With}
use Rattle.sem_compile.specs.stm_pieces.Needed.{is_silent}
use Rattle.pt_exits.proofs.ExitLemmas.{choice-none, choice-some, with-none, with-some}
use Rattle.pt_exits.proofs.places.is_silent.Goals as goal

pub returns-in-Expr : goal.returns-in-Expr
returns-in-Expr c = sym (ap (λ st. is_silent st) (stm_of-Expr c.args.s.now _ c.in-Expr.is))

pub returns-in-Assign : goal.returns-in-Assign
returns-in-Assign c = sym (ap (λ st. is_silent st) (stm_of-Assign c.args.s.now _ _ c.in-Assign.is))

pub returns-in-Augmented : goal.returns-in-Augmented
returns-in-Augmented c = sym (ap (λ st. is_silent st) (stm_of-Augmented c.args.s.now _ _ _ c.in-Augmented.is))

pub returns-in-Annotated : goal.returns-in-Annotated
returns-in-Annotated c = sym (ap (λ st. is_silent st) (stm_of-Annotated c.args.s.now _ _ _ c.in-Annotated.is))

pub returns-in-Assert : goal.returns-in-Assert
returns-in-Assert c = sym (ap (λ st. is_silent st) (stm_of-Assert c.args.s.now _ _ c.in-Assert.is))

pub returns-in-Return : goal.returns-in-Return
returns-in-Return c = sym (ap (λ st. is_silent st) (stm_of-Return c.args.s.now _ c.in-Return.is))

pub returns-in-Raise : goal.returns-in-Raise
returns-in-Raise c = sym (ap (λ st. is_silent st) (stm_of-Raise c.args.s.now _ _ c.in-Raise.is))

pub returns-in-While : goal.returns-in-While
returns-in-While c = sym (ap (λ st. is_silent st) (stm_of-While c.args.s.now _ _ _ c.in-While.is))

pub returns-in-For : goal.returns-in-For
returns-in-For c = sym (ap (λ st. is_silent st) (stm_of-For c.args.s.now _ _ _ _ c.in-For.is))

pub returns-in-Try : goal.returns-in-Try
returns-in-Try c = sym (ap (λ st. is_silent st) (stm_of-Try c.args.s.now _ _ _ _ c.in-Try.is))

pub returns-in-Def : goal.returns-in-Def
returns-in-Def c = sym (ap (λ st. is_silent st) (stm_of-Def c.args.s.now _ _ _ _ _ _ _ c.in-Def.is))

pub returns-in-Class : goal.returns-in-Class
returns-in-Class c = sym (ap (λ st. is_silent st) (stm_of-Class c.args.s.now _ _ _ _ _ _ c.in-Class.is))

pub returns-in-If : goal.returns-in-If
returns-in-If c = grind (arith, stm_of-If c.args.s.now _ _ c.in-If.is, choice-none, choice-some)

pub returns-in-With : goal.returns-in-With
returns-in-With c = grind (arith, stm_of-With c.args.s.now _ _ c.in-With.is, with-none, with-some)
