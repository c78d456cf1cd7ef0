-- Which statement is a documentation string, told by the variants of the tree that code walks.
use Rattle.std.proofs.Common.{◌≡◌, ℕ, false, List, refl, sym, ap, ◌∙◌}
use Rattle.pt_tree.specs.declared.expression.Argument.{Argument}
use Rattle.pt_tree.specs.declared.expression.Argument.TheOpen as open_node
use Rattle.pt_tree.specs.declared.expression.Clause.{Clause}
use Rattle.pt_tree.specs.declared.expression.Comparison.{Comparison}
use Rattle.pt_tree.specs.declared.expression.Constant.{Constant}
use Rattle.pt_tree.specs.declared.expression.Constant.TheVariants as constant
use Rattle.pt_tree.specs.declared.expression.Entry.{Entry}
use Rattle.pt_tree.specs.declared.expression.Expr.{Expr}
use Rattle.pt_tree.specs.declared.expression.ExprNode.{ExprNode, ExprNode-F, map-ExprNode, out-ExprNode, roll-ExprNode, roll-out-ExprNode}
use Rattle.pt_tree.specs.declared.expression.ExprNode.TheVariants as node
use Rattle.pt_tree.specs.declared.expression.Parameter.{Parameter}
use Rattle.pt_tree.specs.declared.expression.Parameters.{Parameters}
use Rattle.pt_tree.specs.declared.expression.Piece.{Piece}
use Rattle.pt_tree.specs.declared.expression.PlaceNode.{PlaceNode}
use Rattle.pt_tree.specs.declared.expression.Target.{Target}
use Rattle.pt_tree.specs.declared.expression.TargetNode.{TargetNode}
use Rattle.pt_tree.specs.declared.statement.Branch.{Branch}
use Rattle.pt_tree.specs.declared.statement.Handler.{Handler}
use Rattle.pt_tree.specs.declared.statement.Stmt.{Stmt}
use Rattle.pt_tree.specs.declared.statement.StmtNode.{StmtNode, StmtNode-F, map-StmtNode, out-StmtNode, roll-StmtNode, roll-out-StmtNode}
use Rattle.pt_tree.specs.declared.statement.StmtNode.TheOpen as open_statement
use Rattle.pt_tree.specs.declared.statement.StmtNode.TheVariants as statement
use Rattle.pt_tree.specs.Syntax.{Exp, Pieces, Entries, Links, Args, Place, Tgt, Params, Formals, Stm, Branches, Handlers}
use Rattle.pt_tree.specs.Fold.{ClauseOf, ExprNode-P, expression_plain, argument_of, node_of, piece_of, place_node_of, target_node_of, clause_of, link_of, entry_of, exp_of, formal_of, parameters_of, target_of}
use Rattle.pt_tree.specs.StatementFold.{StmtNode-P, statement_plain, stm_node_of, branch_of, handler_of, stm_of}
use Rattle.pt_tree.specs.Blocks.{is_text, is_string}
use Rattle.pt_block_shapes.specs.outliner.Docstrings.{is_docstring}
use Rattle.pt_tree.proofs.Folds.{exp_of-is, node_of-is, exp_of-Constant}
use Rattle.pt_tree.proofs.StatementFolds.{stm_of-is, stm_node_of-is, stm_of-Expr}

abbrev Node : Type 0
Node = ExprNode-F Argument ExprNode Piece PlaceNode TargetNode Clause Comparison Entry Expr Parameter Parameters Target

abbrev plain-node : Node → ExprNode-P
plain-node n = map-ExprNode Argument ExprNode Piece PlaceNode TargetNode Clause Comparison Entry Expr Parameter Parameters Target (Args → Args) (ℕ → Exp) (Pieces → Pieces) (ℕ → Place) (ℕ → Tgt) ClauseOf (Links → Links) (Entries → Entries) Exp (Formals → Formals) Params Tgt argument_of node_of piece_of place_node_of target_node_of clause_of link_of entry_of exp_of formal_of parameters_of target_of n

constant-out : (x : ExprNode) (k : Constant) → out-ExprNode x ≡ open_node.Constant k → x ≡ node.Constant k
constant-out x k is = sym (roll-out-ExprNode x) ∙ ap roll-ExprNode (is ∙ sym (node.outs-Constant k)) ∙ roll-out-ExprNode (node.Constant k)

other-node : (n : Node) (x : ExprNode) (l : ℕ) → out-ExprNode x ≡ n → ((k : Constant) → x ≡ node.Constant k → ⊥) → is_string (expression_plain (plain-node n) l) ≡ false
other-node (open_node.Constant k) x l is never = absurd (never k (constant-out x k is))
other-node n x l is never = refl

pub is_string-other : (e : Expr) → ((k : Constant) → e.node ≡ node.Constant k → ⊥) → is_string (exp_of e) ≡ false
is_string-other e never = ap is_string (exp_of-is e ∙ ap (λ (f : ℕ → Exp). f e.line.0) (node_of-is e.node)) ∙ other-node (out-ExprNode e.node) e.node e.line.0 refl never

pub is_string-constant : (e : Expr) (k : Constant) → e.node ≡ node.Constant k → is_string (exp_of e) ≡ is_text k
is_string-constant e k is = ap is_string (exp_of-Constant e k is)

pub is_text-other : (k : Constant) → ((t : List ℕ) → k ≡ constant.Str t → ⊥) → is_text k ≡ false
is_text-other constant.None never = refl
is_text-other (constant.Bool b) never = refl
is_text-other constant.Ellipsis never = refl
is_text-other (constant.Int n) never = refl
is_text-other (constant.Str t) never = absurd (never t refl)

abbrev Statement : Type 0
Statement = StmtNode-F StmtNode Branch Handler Stmt

abbrev plain-statement : Statement → StmtNode-P
plain-statement n = map-StmtNode StmtNode Branch Handler Stmt (ℕ → Stm) (Branches → Branches) (Handlers → Handlers) Stm stm_node_of branch_of handler_of stm_of n

expression-out : (x : StmtNode) (e : Expr) → out-StmtNode x ≡ open_statement.Expr e → x ≡ statement.Expr e
expression-out x e is = sym (roll-out-StmtNode x) ∙ ap roll-StmtNode (is ∙ sym (statement.outs-Expr e)) ∙ roll-out-StmtNode (statement.Expr e)

other-statement : (n : Statement) (x : StmtNode) (l : ℕ) → out-StmtNode x ≡ n → ((e : Expr) → x ≡ statement.Expr e → ⊥) → is_docstring (statement_plain (plain-statement n) l) ≡ false
other-statement (open_statement.Expr e) x l is never = absurd (never e (expression-out x e is))
other-statement n x l is never = refl

pub is_docstring-other : (s : Stmt) → ((e : Expr) → s.node ≡ statement.Expr e → ⊥) → is_docstring (stm_of s) ≡ false
is_docstring-other s never = ap is_docstring (stm_of-is s ∙ ap (λ (f : ℕ → Stm). f s.line.0) (stm_node_of-is s.node)) ∙ other-statement (out-StmtNode s.node) s.node s.line.0 refl never

pub is_docstring-expression : (s : Stmt) (e : Expr) → s.node ≡ statement.Expr e → is_docstring (stm_of s) ≡ is_string (exp_of e)
is_docstring-expression s e is = ap is_docstring (stm_of-Expr s e is)
