-- The line of a tree.
use Rattle.std.proofs.Common.{◌≡◌, ℕ, refl, ◌∙◌, ap}
use Rattle.pt_wide.specs.declared.expression.WideArgument.TheOpen as node
use Rattle.pt_wide.specs.declared.expression.WideExpr.{WideExpr}
use Rattle.pt_wide.specs.Syntax.{Exp}
use Rattle.pt_wide.specs.Fold.{exp_of, WideNode-P, expression_plain}
use Rattle.pt_wide.proofs.Folds.{exp_of-is, node_of-is}
use Rattle.pt_grammar.specs.Nodes.{line_of}

line_plain : (p : WideNode-P) (l : ℕ) → line_of (expression_plain p l) ≡ l
line_plain (node.Constant k) l = refl
line_plain (node.Name x) l = refl
line_plain (node.Joined ps) l = refl
line_plain (node.Parenthesized e) l = refl
line_plain (node.Starred e) l = refl
line_plain (node.Tuple es) l = refl
line_plain (node.List es) l = refl
line_plain (node.Set es) l = refl
line_plain (node.Dict es) l = refl
line_plain (node.Attribute e x) l = refl
line_plain (node.Item e i) l = refl
line_plain (node.Slice a b c) l = refl
line_plain (node.Unary o e) l = refl
line_plain (node.Not e) l = refl
line_plain (node.Binary a o b) l = refl
line_plain (node.Compare a o b more) l = refl
line_plain (node.And e es) l = refl
line_plain (node.Or e es) l = refl
line_plain (node.Conditional c a b) l = refl
line_plain (node.Call f args) l = refl
line_plain (node.Lambda ps e) l = refl
line_plain (node.Comprehension form e c cs) l = refl
line_plain (node.DictComprehension e c cs) l = refl
line_plain (node.Yield o) l = refl
line_plain (node.YieldFrom e) l = refl

pub line_is : (e : WideExpr) → line_of (exp_of e) ≡ e.line.0
line_is e = ap line_of (exp_of-is e ∙ ap (λ (f : ℕ → Exp). f e.line.0) (node_of-is e.node)) ∙ line_plain _ e.line.0
