use Rattle.std.proofs.Common.{arith, ◌∙◌, ◌+◌, ap, refl, sym}
use Rattle.pt_tree.proofs.StatementFolds as tree
use Rattle.pt_tree.specs.Syntax as P
use Rattle.pt_wide.proofs.StatementFolds as wide
use Rattle.pt_wide.specs.Fold as V
use Rattle.pt_wide.specs.Syntax as W
use Rattle.pt_refine_expr.specs.Blocks.{blocks_all, blocks_exp}
use Rattle.pt_refine_expr.specs.Narrow.{narrow_exp}
use Rattle.pt_refine_expr.specs.Narrowed.{wide_exps}
use Rattle.pt_refine_expr.specs.StatementNarrow.{narrow_assigned, narrow_stm}
use Rattle.pt_wide.specs.StatementFold.{stm_of}
use Rattle.pt_refine_expr.specs.StatementBlocks.{blocks_stm}
use Rattle.pt_tree.specs.StatementFold as T
use Rattle.pt_refine_expr.proofs.Building.{both-second, is_not, leaves, left-out, made-is, made-one, made-two, same-narrow}
use Rattle.pt_refine.proofs.StatementBuilding.{assign-is, at-made-stm, is_so, none-before, some-exps}
use Rattle.pt_refine.specs.StatementsNarrowed.{narrow_assignment, narrow_augmented}
use Rattle.pt_refine.proofs.OtherStatements.{assignment-other}
use Rattle.pt_refine.proofs.statement_trees.assignment.Goals as goal

pub returns-then-is_empty : goal.returns-then-is_empty
returns-then-is_empty c =
    let line = c.args.s.now.line.0 in
    let value = V.exp_of c.in-Assign.last in
    let empty = is_so c.is_empty.ensures c.if-is_empty.true in
    at-made-stm (narrow_assignment c.args.n.now) (wide.stm_of-Assign c.args.s.now c.in-Assign.items c.in-Assign.last c.in-Assign.is)
    (made-is (ap (λ ts. narrow_stm c.args.n.now (W.assign line (wide_exps ts) value)) empty) (tree.stm_of-Expr _ _ refl) (ap (λ ts. blocks_all (wide_exps ts) + blocks_exp value) empty ∙ none-before (blocks_exp value)) (made-one (P.expr line) c.in_ok-dropped-in-Assign.ensures))

pub returns-in_ok-value-in-Assign : goal.returns-in_ok-value-in-Assign
returns-in_ok-value-in-Assign c =
    let line = c.args.s.now.line.0 in
    let value = V.exp_of c.in-Assign.last in
    let some = some-exps c.as_slice.result.now (λ e. is_not c.is_empty.ensures c.if-is_empty.false (sym c.as_slice.ensures ∙ e)) in
    at-made-stm (narrow_assignment c.args.n.now) (wide.stm_of-Assign c.args.s.now c.as_slice.result.now c.in-Assign.last (c.in-Assign.is ∙ rw c.as_slice.ensures))
    (made-is (assign-is c.args.n.now line (wide_exps c.as_slice.result.now) value some) (tree.stm_of-Assign _ _ _ refl) refl (made-two (P.assign line) (λ m. narrow_exp m value) c.in_ok-targets-in-Assign.ensures c.in_ok-value-in-Assign.ensures))

pub returns-in_err-dropped-in-Assign : goal.returns-in_err-dropped-in-Assign
returns-in_err-dropped-in-Assign c = grind (arith, leaves, wide.stm_of-Assign c.args.s.now _ _ c.in-Assign.is)

pub returns-in_err-targets-in-Assign : goal.returns-in_err-targets-in-Assign
returns-in_err-targets-in-Assign c = grind (arith, leaves, wide.stm_of-Assign c.args.s.now _ _ c.in-Assign.is)

pub returns-in_err-value-in-Assign : goal.returns-in_err-value-in-Assign
returns-in_err-value-in-Assign c =
    let n = c.args.n.now in
    let line = c.args.s.now.line.0 in
    let value = V.exp_of c.in-Assign.last in
    let targets = wide_exps c.as_slice.result.now in
    let some = some-exps c.as_slice.result.now (λ e. is_not c.is_empty.ensures c.if-is_empty.false (sym c.as_slice.ensures ∙ e)) in
    left-out T.stm_of c.from_residual-in_err-value-in-Assign.result _ _ (narrow_assignment n (stm_of c.args.s.now)) n (blocks_stm (stm_of c.args.s.now)) _ c.from_residual-in_err-value-in-Assign.ensures.1 c.in_err-value-in-Assign.ensures
    (λ none. ap (narrow_assignment n) (wide.stm_of-Assign c.args.s.now c.as_slice.result.now c.in-Assign.last (c.in-Assign.is ∙ rw c.as_slice.ensures)) ∙ assign-is n line targets value some ∙ both-second (P.assign line) (λ m. narrow_exp m value) (narrow_assigned n targets) (n + blocks_all targets) _ c.in_ok-targets-in-Assign.ensures.after none)

pub returns-in_default : goal.returns-in_default
returns-in_default c = same-narrow T.stm_of c.augmented.result (narrow_augmented c.args.n.now (stm_of c.args.s.now)) (narrow_assignment c.args.n.now (stm_of c.args.s.now)) c.args.n.now (blocks_stm (stm_of c.args.s.now)) c.augmented.new.n (assignment-other c.args.n.now c.args.s.now (c.in_default.not-Assign)) c.augmented.ensures
