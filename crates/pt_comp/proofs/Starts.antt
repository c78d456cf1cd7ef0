-- A statement starts on its line.
use Rattle.std.proofs.Common.{◌≡◌, ◌∙◌, ℕ, refl, ap}
use Rattle.pt_tree.specs.declared.statement.Stmt.{Stmt}
use Rattle.pt_tree.specs.declared.statement.StmtNode.{StmtNode}
use Rattle.pt_tree.specs.declared.statement.StmtNode.TheOpen as node
use Rattle.pt_tree.specs.Syntax.{Stm}
use Rattle.pt_tree.specs.StatementFold.{StmtNode-P, statement_plain, stm_node_of, stm_of}
use Rattle.pt_tree.proofs.StatementFolds.{stm_of-is, stm_node_of-is}
use Rattle.sem_control.specs.control.Jump.{starts_on}

line-plain : (n : StmtNode-P) (l : ℕ) → starts_on (statement_plain n l) ≡ l
line-plain (node.Expr e) l = refl
line-plain (node.Assign ts e) l = refl
line-plain (node.Augmented p o e) l = refl
line-plain (node.Annotated p a v) l = refl
line-plain (node.Assert c m) l = refl
line-plain node.Pass l = refl
line-plain (node.Del ts) l = refl
line-plain (node.Return v) l = refl
line-plain (node.Raise e c) l = refl
line-plain node.RaiseAgain l = refl
line-plain node.Break l = refl
line-plain node.Continue l = refl
line-plain (node.Import xs) l = refl
line-plain (node.ImportFrom m xs) l = refl
line-plain (node.Global xs) l = refl
line-plain (node.Nonlocal xs) l = refl
line-plain (node.If bs els) l = refl
line-plain (node.While c body els) l = refl
line-plain (node.For t e body els) l = refl
line-plain (node.Try body hs els fin) l = refl
line-plain (node.With is body) l = refl
line-plain (node.Def ds dl b x ps r body) l = refl
line-plain (node.Class ds cl b x base body) l = refl

node-line : (x : StmtNode) (n : StmtNode-P) (l : ℕ) → stm_node_of x ≡ statement_plain n → starts_on (stm_node_of x l) ≡ l
node-line x n l is = ap (λ (f : ℕ → Stm). starts_on (f l)) is ∙ line-plain n l

pub starts-line : (s : Stmt) → starts_on (stm_of s) ≡ s.line.0
starts-line s = ap starts_on (stm_of-is s) ∙ node-line s.node _ s.line.0 (stm_node_of-is s.node)
