use Rattle.std.proofs.Common.{ap, sym, arith}
use Rattle.pt_tree.proofs.StatementFolds.{stm_of-Pass, stm_of-RaiseAgain, stm_of-Break, stm_of-Continue, stm_of-Expr, stm_of-Assign, stm_of-Augmented, stm_of-Annotated, stm_of-Assert, stm_of-Del, stm_of-Return, stm_of-Raise, stm_of-Import, stm_of-ImportFrom, stm_of-Global, stm_of-Nonlocal, stm_of-If, stm_of-While, stm_of-For, stm_of-Try, stm_of-With, stm_of-Def, stm_of-Class}
use Rattle.pt_write_simple.specs.pt_stm_forms.Blocks.{is_docstring}
use Rattle.pt_comp.proofs.docstrings.is_docstring.Goals as goal

pub returns-in-Expr : goal.returns-in-Expr
returns-in-Expr c = grind (arith, stm_of-Expr c.args.s.now _ c.in-Expr.is)

pub returns-in-Assign : goal.returns-in-Assign
returns-in-Assign c = sym (ap (λ st. is_docstring st) (stm_of-Assign c.args.s.now _ _ c.in-Assign.is))

pub returns-in-Augmented : goal.returns-in-Augmented
returns-in-Augmented c = sym (ap (λ st. is_docstring st) (stm_of-Augmented c.args.s.now _ _ _ c.in-Augmented.is))

pub returns-in-Annotated : goal.returns-in-Annotated
returns-in-Annotated c = sym (ap (λ st. is_docstring st) (stm_of-Annotated c.args.s.now _ _ _ c.in-Annotated.is))

pub returns-in-Assert : goal.returns-in-Assert
returns-in-Assert c = sym (ap (λ st. is_docstring st) (stm_of-Assert c.args.s.now _ _ c.in-Assert.is))

pub returns-in-Del : goal.returns-in-Del
returns-in-Del c = sym (ap (λ st. is_docstring st) (stm_of-Del c.args.s.now _ c.in-Del.is))

pub returns-in-Return : goal.returns-in-Return
returns-in-Return c = sym (ap (λ st. is_docstring st) (stm_of-Return c.args.s.now _ c.in-Return.is))

pub returns-in-Raise : goal.returns-in-Raise
returns-in-Raise c = sym (ap (λ st. is_docstring st) (stm_of-Raise c.args.s.now _ _ c.in-Raise.is))

pub returns-in-Import : goal.returns-in-Import
returns-in-Import c = sym (ap (λ st. is_docstring st) (stm_of-Import c.args.s.now _ c.in-Import.is))

pub returns-in-ImportFrom : goal.returns-in-ImportFrom
returns-in-ImportFrom c = sym (ap (λ st. is_docstring st) (stm_of-ImportFrom c.args.s.now _ _ c.in-ImportFrom.is))

pub returns-in-Global : goal.returns-in-Global
returns-in-Global c = sym (ap (λ st. is_docstring st) (stm_of-Global c.args.s.now _ c.in-Global.is))

pub returns-in-Nonlocal : goal.returns-in-Nonlocal
returns-in-Nonlocal c = sym (ap (λ st. is_docstring st) (stm_of-Nonlocal c.args.s.now _ c.in-Nonlocal.is))

pub returns-in-If : goal.returns-in-If
returns-in-If c = sym (ap (λ st. is_docstring st) (stm_of-If c.args.s.now _ _ c.in-If.is))

pub returns-in-While : goal.returns-in-While
returns-in-While c = sym (ap (λ st. is_docstring st) (stm_of-While c.args.s.now _ _ _ c.in-While.is))

pub returns-in-For : goal.returns-in-For
returns-in-For c = sym (ap (λ st. is_docstring st) (stm_of-For c.args.s.now _ _ _ _ c.in-For.is))

pub returns-in-Try : goal.returns-in-Try
returns-in-Try c = sym (ap (λ st. is_docstring st) (stm_of-Try c.args.s.now _ _ _ _ c.in-Try.is))

pub returns-in-With : goal.returns-in-With
returns-in-With c = sym (ap (λ st. is_docstring st) (stm_of-With c.args.s.now _ _ c.in-With.is))

pub returns-in-Def : goal.returns-in-Def
returns-in-Def c = sym (ap (λ st. is_docstring st) (stm_of-Def c.args.s.now _ _ _ _ _ _ _ c.in-Def.is))

pub returns-in-Class : goal.returns-in-Class
returns-in-Class c = sym (ap (λ st. is_docstring st) (stm_of-Class c.args.s.now _ _ _ _ _ _ c.in-Class.is))

pub returns-in-Pass : goal.returns-in-Pass
returns-in-Pass c = sym (ap (λ st. is_docstring st) (stm_of-Pass c.args.s.now c.in-Pass.is))

pub returns-in-RaiseAgain : goal.returns-in-RaiseAgain
returns-in-RaiseAgain c = sym (ap (λ st. is_docstring st) (stm_of-RaiseAgain c.args.s.now c.in-RaiseAgain.is))

pub returns-in-Break : goal.returns-in-Break
returns-in-Break c = sym (ap (λ st. is_docstring st) (stm_of-Break c.args.s.now c.in-Break.is))

pub returns-in-Continue : goal.returns-in-Continue
returns-in-Continue c = sym (ap (λ st. is_docstring st) (stm_of-Continue c.args.s.now c.in-Continue.is))
