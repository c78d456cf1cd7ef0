use Rattle.std.proofs.Common.{arith, refl}
use Rattle.pt_tree.proofs.StatementFolds as tree
use Rattle.pt_tree.specs.Syntax as P
use Rattle.pt_wide.proofs.StatementFolds as wide
use Rattle.pt_wide.specs.Fold as V
use Rattle.pt_refine_expr.specs.Narrow.{narrow_exp}
use Rattle.pt_wide.specs.StatementFold.{stm_of}
use Rattle.pt_refine_expr.specs.StatementBlocks.{blocks_stm}
use Rattle.pt_tree.specs.StatementFold as T
use Rattle.pt_refine_expr.proofs.Building.{leaves, same-narrow, made-is, made-two}
use Rattle.pt_refine.proofs.StatementBuilding.{at-made-stm}
use Rattle.pt_refine.specs.StatementsNarrowed.{narrow_annotated, narrow_augmented}
use Rattle.pt_refine.proofs.OtherStatements.{augmented-other}
use Rattle.pt_refine.proofs.statement_trees.augmented.Goals as goal

pub returns-in_ok-value-in-Augmented : goal.returns-in_ok-value-in-Augmented
returns-in_ok-value-in-Augmented c = at-made-stm (narrow_augmented c.args.n.now) (wide.stm_of-Augmented c.args.s.now _ _ _ c.in-Augmented.is) (made-is refl (tree.stm_of-Augmented _ _ _ _ refl) refl (made-two (λ p e. P.augmented c.args.s.now.line.0 p c.in-Augmented.operator e) (λ m. narrow_exp m (V.exp_of c.in-Augmented.value)) c.in_ok-target-in-Augmented.ensures c.in_ok-value-in-Augmented.ensures))

pub returns-in_err-target-in-Augmented : goal.returns-in_err-target-in-Augmented
returns-in_err-target-in-Augmented c = grind (arith, leaves, wide.stm_of-Augmented c.args.s.now _ _ _ c.in-Augmented.is)

pub returns-in_err-value-in-Augmented : goal.returns-in_err-value-in-Augmented
returns-in_err-value-in-Augmented c = grind (arith, leaves, wide.stm_of-Augmented c.args.s.now _ _ _ c.in-Augmented.is)

pub returns-in_default : goal.returns-in_default
returns-in_default c = same-narrow T.stm_of c.annotated.result (narrow_annotated c.args.n.now (stm_of c.args.s.now)) (narrow_augmented c.args.n.now (stm_of c.args.s.now)) c.args.n.now (blocks_stm (stm_of c.args.s.now)) c.annotated.new.n (augmented-other c.args.n.now c.args.s.now (c.in_default.not-Augmented)) c.annotated.ensures
