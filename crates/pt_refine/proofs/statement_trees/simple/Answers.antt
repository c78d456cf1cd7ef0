use Rattle.std.proofs.Common.{arith, refl, ◌∙◌}
use Rattle.pt_tree.proofs.StatementFolds as tree
use Rattle.pt_tree.specs.Syntax as P
use Rattle.pt_wide.proofs.StatementFolds as wide
use Rattle.pt_wide.specs.StatementFold.{stm_of}
use Rattle.pt_refine_expr.specs.StatementBlocks.{blocks_stm}
use Rattle.pt_tree.specs.StatementFold as T
use Rattle.pt_refine_expr.proofs.Building.{leaves, same-narrow, made-is, made-one}
use Rattle.pt_refine.proofs.StatementBuilding.{at-made-stm}
use Rattle.pt_refine.specs.StatementsNarrowed.{narrow_leaf, narrow_simple}
use Rattle.pt_refine.proofs.OtherStatements.{simple-other}
use Rattle.pt_refine.proofs.statement_trees.simple.Goals as goal

pub returns-in_ok-items-in-Del : goal.returns-in_ok-items-in-Del
returns-in_ok-items-in-Del c = at-made-stm (narrow_simple c.args.n.now) (wide.stm_of-Del c.args.s.now _ (c.in-Del.is ∙ rw c.as_slice.ensures)) (made-is refl (tree.stm_of-Del _ _ refl) refl (made-one (P.del c.args.s.now.line.0) c.in_ok-items-in-Del.ensures))

pub returns-in_ok-answer-in-Return : goal.returns-in_ok-answer-in-Return
returns-in_ok-answer-in-Return c = at-made-stm (narrow_simple c.args.n.now) (wide.stm_of-Return c.args.s.now _ c.in-Return.is) (made-is refl (tree.stm_of-Return _ _ refl) refl (made-one (P.return c.args.s.now.line.0) c.in_ok-answer-in-Return.ensures))

pub returns-in_err-items-in-Del : goal.returns-in_err-items-in-Del
returns-in_err-items-in-Del c = grind (arith, leaves, wide.stm_of-Del c.args.s.now _ c.in-Del.is)

pub returns-in_err-answer-in-Return : goal.returns-in_err-answer-in-Return
returns-in_err-answer-in-Return c = grind (arith, leaves, wide.stm_of-Return c.args.s.now _ c.in-Return.is)

pub returns-in_default : goal.returns-in_default
returns-in_default c = same-narrow T.stm_of c.leaf.result (narrow_leaf c.args.n.now (stm_of c.args.s.now)) (narrow_simple c.args.n.now (stm_of c.args.s.now)) c.args.n.now (blocks_stm (stm_of c.args.s.now)) c.leaf.new.n (simple-other c.args.n.now c.args.s.now (c.in_default.not-Del, c.in_default.not-Return)) c.leaf.ensures
