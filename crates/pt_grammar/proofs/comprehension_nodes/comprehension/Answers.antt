use Rattle.std.proofs.Common.{ℕ, ◌∙◌, ap, map, arith}
use Rattle.pt_tree.specs.Fold.{chained}
use Rattle.pt_wide.specs.declared.expression.WideExpr.{WideExpr}
use Rattle.pt_wide.specs.Syntax as S
use Rattle.pt_wide.specs.Fold.{exp_of, clause_of}
use Rattle.pt_wide.specs.Measure.{depth_exp, depth_clauses}
use Rattle.pt_wide.proofs.Folds.{exp_of-Comprehension}
use Rattle.pt_grammar.proofs.ClauseLemmas.{clauses_apart}
use Rattle.pt_grammar.proofs.comprehension_nodes.comprehension.Goals as goal

pub invariant_of-result : goal.invariant_of-result
invariant_of-result c = record {
  exact = omega (
    arith,
    c.max-depth.ensures,
    c.args.item.exact,
    c.args.clauses.exact,
    ap depth_clauses (clauses_apart c.in_ok-new.field-0 _ c.in_ok-first.rest c.args.clauses.items c.in_ok-new.ensures c.in_ok-first.ensures),
    ap depth_exp (exp_of-Comprehension c.in_ok-tree.tree c.args.form c.args.item.tree c.in_ok-new.field-0 c.in_ok-first.rest (ap (λ (e : WideExpr). e.node) c.in_ok-tree.ensures)),
  );
}

pub returns : goal.returns
returns c =
    exp_of-Comprehension c.in_ok-tree.tree c.args.form c.args.item.tree c.in_ok-new.field-0 c.in_ok-first.rest (ap (λ (e : WideExpr). e.node) c.in_ok-tree.ensures)
    ∙ ap (λ (l : ℕ). S.comprehension l c.args.form (exp_of c.args.item.tree) (clause_of c.in_ok-new.field-0 (chained S.no_clauses (map clause_of c.in_ok-first.rest)))) (ap (λ (e : WideExpr). e.line.0) c.in_ok-tree.ensures)
    ∙ ap (λ r. S.comprehension c.args.line.0 c.args.form (exp_of c.args.item.tree) r) (clauses_apart c.in_ok-new.field-0 _ c.in_ok-first.rest c.args.clauses.items c.in_ok-new.ensures c.in_ok-first.ensures)
