use Rattle.std.proofs.Common.{ℕ, ◌∙◌, ap, map}
use Rattle.pt_tree.specs.Fold.{chained}
use Rattle.pt_wide.specs.declared.expression.WideExpr.{WideExpr}
use Rattle.pt_wide.specs.Syntax as S
use Rattle.pt_wide.specs.Fold.{clause_of, entry_of}
use Rattle.pt_wide.proofs.Folds.{exp_of-DictComprehension}
use Rattle.pt_grammar.proofs.ClauseLemmas.{clauses_apart}
use Rattle.pt_grammar.proofs.brace_nodes.entry_for.Goals as goal

pub returns : goal.returns
returns c =
    exp_of-DictComprehension c.in_ok-tree.tree c.args.entry c.in_ok-new.field-0 c.in_ok-first.rest (ap (λ (e : WideExpr). e.node) c.in_ok-tree.ensures)
    ∙ ap (λ (l : ℕ). S.dict_comprehension l (entry_of c.args.entry) (clause_of c.in_ok-new.field-0 (chained S.no_clauses (map clause_of c.in_ok-first.rest)))) (ap (λ (e : WideExpr). e.line.0) c.in_ok-tree.ensures)
    ∙ ap (λ r. S.dict_comprehension c.args.line.0 (entry_of c.args.entry) r) (clauses_apart c.in_ok-new.field-0 _ c.in_ok-first.rest c.args.clauses c.in_ok-new.ensures c.in_ok-first.ensures)
