use Rattle.std.proofs.Common.{ℕ, ◌∙◌, ap, sym, map}
use Rattle.pt_wide.specs.declared.expression.WideExpr.{WideExpr}
use Rattle.pt_wide.specs.Syntax as S
use Rattle.pt_wide.specs.Fold.{exp_of, all_of}
use Rattle.pt_wide.proofs.Folds.{exp_of-And}
use Rattle.pt_readers.proofs.Exits.{is_not}
use Rattle.pt_grammar.proofs.Depths.{conjoined_is}
use Rattle.pt_grammar.proofs.nodes.conjunction.Goals as goal

pub returns : goal.returns
returns c =
    exp_of-And c.in_ok-tree.tree c.args.first.tree c.args.more.items (ap (λ (e : WideExpr). e.node) c.in_ok-tree.ensures)
    ∙ ap (λ (l : ℕ). S.and l (exp_of c.args.first.tree) (all_of (map exp_of c.args.more.items))) (ap (λ (e : WideExpr). e.line.0) c.in_ok-tree.ensures ∙ c.line-line.ensures)
    ∙ sym (conjoined_is (exp_of c.args.first.tree) c.args.more.items (λ e. is_not c.is_empty.ensures c.if-is_empty.false e))
