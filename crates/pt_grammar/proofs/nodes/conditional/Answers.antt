use Rattle.std.proofs.Common.{ap, arith}
use Rattle.pt_wide.specs.declared.expression.WideExpr.{WideExpr}
use Rattle.pt_wide.specs.Measure.{depth_exp}
use Rattle.pt_wide.proofs.Folds.{exp_of-Conditional}
use Rattle.pt_grammar.proofs.nodes.conditional.Goals as goal

pub invariant_of-result : goal.invariant_of-result
invariant_of-result c = record {
  exact = omega (arith, c.max.ensures, c.max-depth.ensures, c.args.body.exact, c.args.test.exact, c.args.otherwise.exact, ap depth_exp (exp_of-Conditional c.in_ok-tree.tree c.args.test.tree c.args.body.tree c.args.otherwise.tree (ap (λ (e : WideExpr). e.node) c.in_ok-tree.ensures)));
}
