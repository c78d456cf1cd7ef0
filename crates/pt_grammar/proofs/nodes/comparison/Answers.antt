use Rattle.std.proofs.Common.{ℕ, ◌∙◌, ap, map, arith}
use Rattle.pt_tree.specs.Fold.{chained}
use Rattle.pt_wide.specs.declared.expression.WideExpr.{WideExpr}
use Rattle.pt_wide.specs.Syntax as S
use Rattle.pt_wide.specs.Fold.{exp_of, link_of}
use Rattle.pt_wide.specs.Measure.{depth_exp, depth_links}
use Rattle.pt_wide.proofs.Folds.{exp_of-Compare}
use Rattle.pt_grammar.specs.Nodes.{line_of}
use Rattle.pt_grammar.proofs.Depths.{links_same}
use Rattle.pt_grammar.proofs.nodes.comparison.Goals as goal

pub invariant_of-result : goal.invariant_of-result
invariant_of-result c = record {
  exact = omega (
    arith,
    c.max.ensures,
    c.max-depth.ensures,
    c.args.left.exact,
    c.args.first.right.exact,
    c.args.more.exact,
    ap depth_links (links_same c.args.more.items),
    ap depth_exp (exp_of-Compare c.in_ok-tree.tree c.args.left.tree c.args.first.operator c.args.first.right.tree c.args.more.items (ap (λ (e : WideExpr). e.node) c.in_ok-tree.ensures)),
  );
}

pub returns : goal.returns
returns c =
    exp_of-Compare c.in_ok-tree.tree c.args.left.tree c.args.first.operator c.args.first.right.tree c.args.more.items (ap (λ (e : WideExpr). e.node) c.in_ok-tree.ensures)
    ∙ ap (λ (l : ℕ). S.compare l (exp_of c.args.left.tree) c.args.first.operator (exp_of c.args.first.right.tree) (chained S.no_links (map link_of c.args.more.items)))
    (ap (λ (e : WideExpr). e.line.0) c.in_ok-tree.ensures ∙ c.line-line.ensures)
    ∙ ap (λ r. S.compare (line_of (exp_of c.args.left.tree)) (exp_of c.args.left.tree) c.args.first.operator (exp_of c.args.first.right.tree) r) (links_same c.args.more.items)
