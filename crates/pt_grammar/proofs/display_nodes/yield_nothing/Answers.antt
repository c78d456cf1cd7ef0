use Rattle.std.proofs.Common.{None, ◌∙◌, ap, arith}
use Rattle.pt_wide.specs.declared.expression.WideExpr.{WideExpr}
use Rattle.pt_wide.specs.Syntax as S
use Rattle.pt_wide.specs.Measure.{depth_exp}
use Rattle.pt_wide.proofs.Folds.{exp_of-Yield}
use Rattle.pt_grammar.proofs.display_nodes.yield_nothing.Goals as goal

pub invariant_of-result : goal.invariant_of-result
invariant_of-result c = record { exact = omega (arith, ap depth_exp (exp_of-Yield c.in_ok-tree.tree None (ap (λ (e : WideExpr). e.node) c.in_ok-tree.ensures))) }

pub returns : goal.returns
returns c = exp_of-Yield c.in_ok-tree.tree None (ap (λ (e : WideExpr). e.node) c.in_ok-tree.ensures) ∙ ap (λ (e : WideExpr). S.yield e.line.0 S.absent) c.in_ok-tree.ensures
