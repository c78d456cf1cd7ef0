use Rattle.std.proofs.Common.{arith, refl}
use Rattle.pt_tree.proofs.StatementFolds as tree
use Rattle.pt_tree.specs.Syntax as P
use Rattle.pt_wide.proofs.StatementFolds as wide
use Rattle.pt_wide.specs.Fold as V
use Rattle.pt_refine_expr.specs.Narrow.{narrow_opt}
use Rattle.pt_wide.specs.StatementFold.{stm_of}
use Rattle.pt_refine_expr.specs.StatementBlocks.{blocks_stm}
use Rattle.pt_tree.specs.StatementFold as T
use Rattle.pt_refine_expr.proofs.Building.{leaves, same-narrow, made-is, made-two}
use Rattle.pt_refine.proofs.StatementBuilding.{at-made-stm}
use Rattle.pt_refine.specs.StatementsNarrowed.{narrow_checked, narrow_simple}
use Rattle.pt_refine.proofs.OtherStatements.{checked-other}
use Rattle.pt_refine.proofs.statement_trees.checked.Goals as goal

pub returns-in_ok-message-in-Assert : goal.returns-in_ok-message-in-Assert
returns-in_ok-message-in-Assert c = at-made-stm (narrow_checked c.args.n.now) (wide.stm_of-Assert c.args.s.now _ _ c.in-Assert.is) (made-is refl (tree.stm_of-Assert _ _ _ refl) refl (made-two (P.assert c.args.s.now.line.0) (λ m. narrow_opt m (V.opt_exp c.in-Assert.told)) c.in_ok-test-in-Assert.ensures c.in_ok-message-in-Assert.ensures))

pub returns-in_ok-cause-in-Raise : goal.returns-in_ok-cause-in-Raise
returns-in_ok-cause-in-Raise c = at-made-stm (narrow_checked c.args.n.now) (wide.stm_of-Raise c.args.s.now _ _ c.in-Raise.is) (made-is refl (tree.stm_of-Raise _ _ _ refl) refl (made-two (P.raise c.args.s.now.line.0) (λ m. narrow_opt m (V.opt_exp c.in-Raise.cause)) c.in_ok-exception-in-Raise.ensures c.in_ok-cause-in-Raise.ensures))

pub returns-in_err-test-in-Assert : goal.returns-in_err-test-in-Assert
returns-in_err-test-in-Assert c = grind (arith, leaves, wide.stm_of-Assert c.args.s.now _ _ c.in-Assert.is)

pub returns-in_err-message-in-Assert : goal.returns-in_err-message-in-Assert
returns-in_err-message-in-Assert c = grind (arith, leaves, wide.stm_of-Assert c.args.s.now _ _ c.in-Assert.is)

pub returns-in_err-exception-in-Raise : goal.returns-in_err-exception-in-Raise
returns-in_err-exception-in-Raise c = grind (arith, leaves, wide.stm_of-Raise c.args.s.now _ _ c.in-Raise.is)

pub returns-in_err-cause-in-Raise : goal.returns-in_err-cause-in-Raise
returns-in_err-cause-in-Raise c = grind (arith, leaves, wide.stm_of-Raise c.args.s.now _ _ c.in-Raise.is)

pub returns-in_default : goal.returns-in_default
returns-in_default c = same-narrow T.stm_of c.simple.result (narrow_simple c.args.n.now (stm_of c.args.s.now)) (narrow_checked c.args.n.now (stm_of c.args.s.now)) c.args.n.now (blocks_stm (stm_of c.args.s.now)) c.simple.new.n (checked-other c.args.n.now c.args.s.now (c.in_default.not-Assert, c.in_default.not-Raise)) c.simple.ensures
