use Rattle.std.proofs.Common.{ap, arith}
use Rattle.pt_wide.specs.declared.expression.WideExpr.{WideExpr}
use Rattle.pt_wide.specs.Measure.{depth_exp, depth_opt}
use Rattle.pt_wide.proofs.Folds.{exp_of-Slice}
use Rattle.pt_grammar.proofs.call_nodes.slice.Goals as goal

pub invariant_of-result : goal.invariant_of-result
invariant_of-result c = record {
  exact = omega (
    arith,
    c.max.ensures,
    c.max-depth.ensures,
    c.depth_of.ensures,
    c.depth_of-2.ensures,
    c.depth_of-3.ensures,
    ap depth_exp (exp_of-Slice c.in_ok-tree.tree _ _ _ (ap (λ (e : WideExpr). e.node) c.in_ok-tree.ensures)),
    ap depth_opt c.tree_of.ensures,
    ap depth_opt c.tree_of-2.ensures,
    ap depth_opt c.tree_of-3.ensures,
  );
}
