use Rattle.std.proofs.Common.{arith, refl}
use Rattle.pt_tree.proofs.StatementFolds as tree
use Rattle.pt_tree.specs.Syntax as P
use Rattle.pt_wide.proofs.StatementFolds as wide
use Rattle.pt_wide.specs.Fold as V
use Rattle.pt_refine_expr.specs.Narrow.{narrow_exp, narrow_opt}
use Rattle.pt_wide.specs.StatementFold.{stm_of}
use Rattle.pt_refine_expr.specs.StatementBlocks.{blocks_stm}
use Rattle.pt_tree.specs.StatementFold as T
use Rattle.pt_refine_expr.proofs.Building.{leaves, same-narrow, made-is}
use Rattle.pt_refine.proofs.StatementBuilding.{at-made-stm, made-beside}
use Rattle.pt_refine.specs.StatementsNarrowed.{narrow_annotated, narrow_checked}
use Rattle.pt_refine.proofs.OtherStatements.{annotated-other}
use Rattle.pt_refine.proofs.statement_trees.annotated.Goals as goal

pub returns-in_ok-value-in-Annotated : goal.returns-in_ok-value-in-Annotated
returns-in_ok-value-in-Annotated c = at-made-stm (narrow_annotated c.args.n.now) (wide.stm_of-Annotated c.args.s.now _ _ _ c.in-Annotated.is) (made-is refl (tree.stm_of-Annotated _ _ _ _ refl) refl (made-beside (P.annotated c.args.s.now.line.0) (λ m. narrow_exp m (V.exp_of c.in-Annotated.kind)) (λ m. narrow_opt m (V.opt_exp c.in-Annotated.first)) c.in_ok-target-in-Annotated.ensures c.in_ok-annotation-in-Annotated.ensures c.in_ok-value-in-Annotated.ensures))

pub returns-in_err-target-in-Annotated : goal.returns-in_err-target-in-Annotated
returns-in_err-target-in-Annotated c = grind (arith, leaves, wide.stm_of-Annotated c.args.s.now _ _ _ c.in-Annotated.is)

pub returns-in_err-annotation-in-Annotated : goal.returns-in_err-annotation-in-Annotated
returns-in_err-annotation-in-Annotated c = grind (arith, leaves, wide.stm_of-Annotated c.args.s.now _ _ _ c.in-Annotated.is)

pub returns-in_err-value-in-Annotated : goal.returns-in_err-value-in-Annotated
returns-in_err-value-in-Annotated c = grind (arith, leaves, wide.stm_of-Annotated c.args.s.now _ _ _ c.in-Annotated.is)

pub returns-in_default : goal.returns-in_default
returns-in_default c = same-narrow T.stm_of c.checked.result (narrow_checked c.args.n.now (stm_of c.args.s.now)) (narrow_annotated c.args.n.now (stm_of c.args.s.now)) c.args.n.now (blocks_stm (stm_of c.args.s.now)) c.checked.new.n (annotated-other c.args.n.now c.args.s.now (c.in_default.not-Annotated)) c.checked.ensures
