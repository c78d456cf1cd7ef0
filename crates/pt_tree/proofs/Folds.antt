-- The plain data of each kind of node, given that of its parts.
use Rattle.std.proofs.Common.{◌≡◌, ℕ, List, refl, ap, ◌∙◌, map, Option, Some, None}
use Rattle.pt_base.specs.declared.operators.BinOp.{BinOp}
use Rattle.pt_base.specs.declared.operators.UnOp.{UnOp}
use Rattle.pt_base.specs.declared.operators.CompareOp.{CompareOp}
use Rattle.pt_base.specs.declared.numbers.BlockId.{BlockId}
use Rattle.pt_base.specs.declared.numbers.Line.{Line}
use Rattle.pt_tree.specs.declared.expression.Argument.{Argument, fold_out-Argument, map-Argument, out-Argument}
use Rattle.pt_tree.specs.declared.expression.ExprNode.{ExprNode, fold_out-ExprNode, map-ExprNode, out-ExprNode}
use Rattle.pt_tree.specs.declared.expression.Piece.{Piece, fold_out-Piece, map-Piece, out-Piece}
use Rattle.pt_tree.specs.declared.expression.PlaceNode.{PlaceNode, fold_out-PlaceNode, map-PlaceNode, out-PlaceNode}
use Rattle.pt_tree.specs.declared.expression.TargetNode.{TargetNode, fold_out-TargetNode, map-TargetNode, out-TargetNode}
use Rattle.pt_tree.specs.declared.expression.Clause.{Clause, fold_out-Clause, map-Clause, out-Clause}
use Rattle.pt_tree.specs.declared.expression.Comparison.{Comparison, fold_out-Comparison, map-Comparison, out-Comparison}
use Rattle.pt_tree.specs.declared.expression.Entry.{Entry, fold_out-Entry, map-Entry, out-Entry}
use Rattle.pt_tree.specs.declared.expression.Expr.{Expr, fold_out-Expr, map-Expr, out-Expr}
use Rattle.pt_tree.specs.declared.expression.Parameter.{Parameter, fold_out-Parameter, map-Parameter, out-Parameter, Parameter-F}
use Rattle.pt_tree.specs.declared.expression.Parameters.{Parameters, fold_out-Parameters, map-Parameters, out-Parameters}
use Rattle.pt_tree.specs.declared.expression.Target.{Target, fold_out-Target, map-Target, out-Target}
use Rattle.pt_tree.specs.declared.expression.ExprNode.TheVariants as node
use Rattle.pt_tree.specs.declared.expression.PlaceNode.TheVariants as place_node
use Rattle.pt_tree.specs.declared.expression.TargetNode.TheVariants as target_node
use Rattle.pt_tree.specs.declared.expression.Argument.TheVariants as argument
use Rattle.pt_tree.specs.declared.expression.Piece.TheVariants as piece
use Rattle.pt_tree.specs.declared.expression.Constant.{Constant}
use Rattle.pt_tree.specs.declared.expression.Conversion.{Conversion}
use Rattle.pt_tree.specs.Syntax as S
use Rattle.pt_tree.specs.Syntax.{Exp, Pieces, Entries, Links, Args, Place, Tgt, Params, Formals}
use Rattle.pt_tree.specs.Fold.{ClauseOf, Argument-P, ExprNode-P, Piece-P, PlaceNode-P, TargetNode-P, Clause-P, Comparison-P, Entry-P, Expr-P, Parameter-P, Parameters-P, Target-P, argument_plain, expression_plain, piece_plain, place_plain, target_plain, clause_plain, comparison_plain, entry_plain, expression_at, parameter_plain, parameters_plain, target_at, argument_of, node_of, piece_of, place_node_of, target_node_of, clause_of, link_of, entry_of, exp_of, formal_of, parameters_of, target_of, all_of, opt_exp, targets_of, chained, behind}

abbrev pub opened-Argument : Argument → Argument-P
opened-Argument x = map-Argument Argument ExprNode Piece PlaceNode TargetNode Clause Comparison Entry Expr Parameter Parameters Target (Args → Args) (ℕ → Exp) (Pieces → Pieces) (ℕ → Place) (ℕ → Tgt) ClauseOf (Links → Links) (Entries → Entries) Exp (Formals → Formals) Params Tgt argument_of node_of piece_of place_node_of target_node_of clause_of link_of entry_of exp_of formal_of parameters_of target_of (out-Argument x)

pub argument_of-is : (x : Argument) → argument_of x ≡ argument_plain (opened-Argument x)
unfolding argument_of node_of piece_of place_node_of target_node_of clause_of link_of entry_of exp_of formal_of parameters_of target_of
argument_of-is x = fold_out-Argument (Args → Args) (ℕ → Exp) (Pieces → Pieces) (ℕ → Place) (ℕ → Tgt) ClauseOf (Links → Links) (Entries → Entries) Exp (Formals → Formals) Params Tgt argument_plain expression_plain piece_plain place_plain target_plain clause_plain comparison_plain entry_plain expression_at parameter_plain parameters_plain target_at x

abbrev pub opened-ExprNode : ExprNode → ExprNode-P
opened-ExprNode x = map-ExprNode Argument ExprNode Piece PlaceNode TargetNode Clause Comparison Entry Expr Parameter Parameters Target (Args → Args) (ℕ → Exp) (Pieces → Pieces) (ℕ → Place) (ℕ → Tgt) ClauseOf (Links → Links) (Entries → Entries) Exp (Formals → Formals) Params Tgt argument_of node_of piece_of place_node_of target_node_of clause_of link_of entry_of exp_of formal_of parameters_of target_of (out-ExprNode x)

pub node_of-is : (x : ExprNode) → node_of x ≡ expression_plain (opened-ExprNode x)
unfolding argument_of node_of piece_of place_node_of target_node_of clause_of link_of entry_of exp_of formal_of parameters_of target_of
node_of-is x = fold_out-ExprNode (Args → Args) (ℕ → Exp) (Pieces → Pieces) (ℕ → Place) (ℕ → Tgt) ClauseOf (Links → Links) (Entries → Entries) Exp (Formals → Formals) Params Tgt argument_plain expression_plain piece_plain place_plain target_plain clause_plain comparison_plain entry_plain expression_at parameter_plain parameters_plain target_at x

abbrev pub opened-Piece : Piece → Piece-P
opened-Piece x = map-Piece Argument ExprNode Piece PlaceNode TargetNode Clause Comparison Entry Expr Parameter Parameters Target (Args → Args) (ℕ → Exp) (Pieces → Pieces) (ℕ → Place) (ℕ → Tgt) ClauseOf (Links → Links) (Entries → Entries) Exp (Formals → Formals) Params Tgt argument_of node_of piece_of place_node_of target_node_of clause_of link_of entry_of exp_of formal_of parameters_of target_of (out-Piece x)

pub piece_of-is : (x : Piece) → piece_of x ≡ piece_plain (opened-Piece x)
unfolding argument_of node_of piece_of place_node_of target_node_of clause_of link_of entry_of exp_of formal_of parameters_of target_of
piece_of-is x = fold_out-Piece (Args → Args) (ℕ → Exp) (Pieces → Pieces) (ℕ → Place) (ℕ → Tgt) ClauseOf (Links → Links) (Entries → Entries) Exp (Formals → Formals) Params Tgt argument_plain expression_plain piece_plain place_plain target_plain clause_plain comparison_plain entry_plain expression_at parameter_plain parameters_plain target_at x

abbrev opened-PlaceNode : PlaceNode → PlaceNode-P
opened-PlaceNode x = map-PlaceNode Argument ExprNode Piece PlaceNode TargetNode Clause Comparison Entry Expr Parameter Parameters Target (Args → Args) (ℕ → Exp) (Pieces → Pieces) (ℕ → Place) (ℕ → Tgt) ClauseOf (Links → Links) (Entries → Entries) Exp (Formals → Formals) Params Tgt argument_of node_of piece_of place_node_of target_node_of clause_of link_of entry_of exp_of formal_of parameters_of target_of (out-PlaceNode x)

place_node_of-is : (x : PlaceNode) → place_node_of x ≡ place_plain (opened-PlaceNode x)
unfolding argument_of node_of piece_of place_node_of target_node_of clause_of link_of entry_of exp_of formal_of parameters_of target_of
place_node_of-is x = fold_out-PlaceNode (Args → Args) (ℕ → Exp) (Pieces → Pieces) (ℕ → Place) (ℕ → Tgt) ClauseOf (Links → Links) (Entries → Entries) Exp (Formals → Formals) Params Tgt argument_plain expression_plain piece_plain place_plain target_plain clause_plain comparison_plain entry_plain expression_at parameter_plain parameters_plain target_at x

abbrev opened-TargetNode : TargetNode → TargetNode-P
opened-TargetNode x = map-TargetNode Argument ExprNode Piece PlaceNode TargetNode Clause Comparison Entry Expr Parameter Parameters Target (Args → Args) (ℕ → Exp) (Pieces → Pieces) (ℕ → Place) (ℕ → Tgt) ClauseOf (Links → Links) (Entries → Entries) Exp (Formals → Formals) Params Tgt argument_of node_of piece_of place_node_of target_node_of clause_of link_of entry_of exp_of formal_of parameters_of target_of (out-TargetNode x)

target_node_of-is : (x : TargetNode) → target_node_of x ≡ target_plain (opened-TargetNode x)
unfolding argument_of node_of piece_of place_node_of target_node_of clause_of link_of entry_of exp_of formal_of parameters_of target_of
target_node_of-is x = fold_out-TargetNode (Args → Args) (ℕ → Exp) (Pieces → Pieces) (ℕ → Place) (ℕ → Tgt) ClauseOf (Links → Links) (Entries → Entries) Exp (Formals → Formals) Params Tgt argument_plain expression_plain piece_plain place_plain target_plain clause_plain comparison_plain entry_plain expression_at parameter_plain parameters_plain target_at x

abbrev opened-Clause : Clause → Clause-P
opened-Clause x = map-Clause Argument ExprNode Piece PlaceNode TargetNode Clause Comparison Entry Expr Parameter Parameters Target (Args → Args) (ℕ → Exp) (Pieces → Pieces) (ℕ → Place) (ℕ → Tgt) ClauseOf (Links → Links) (Entries → Entries) Exp (Formals → Formals) Params Tgt argument_of node_of piece_of place_node_of target_node_of clause_of link_of entry_of exp_of formal_of parameters_of target_of (out-Clause x)

clause_of-is : (x : Clause) → clause_of x ≡ clause_plain (opened-Clause x)
unfolding argument_of node_of piece_of place_node_of target_node_of clause_of link_of entry_of exp_of formal_of parameters_of target_of
clause_of-is x = fold_out-Clause (Args → Args) (ℕ → Exp) (Pieces → Pieces) (ℕ → Place) (ℕ → Tgt) ClauseOf (Links → Links) (Entries → Entries) Exp (Formals → Formals) Params Tgt argument_plain expression_plain piece_plain place_plain target_plain clause_plain comparison_plain entry_plain expression_at parameter_plain parameters_plain target_at x

abbrev opened-Comparison : Comparison → Comparison-P
opened-Comparison x = map-Comparison Argument ExprNode Piece PlaceNode TargetNode Clause Comparison Entry Expr Parameter Parameters Target (Args → Args) (ℕ → Exp) (Pieces → Pieces) (ℕ → Place) (ℕ → Tgt) ClauseOf (Links → Links) (Entries → Entries) Exp (Formals → Formals) Params Tgt argument_of node_of piece_of place_node_of target_node_of clause_of link_of entry_of exp_of formal_of parameters_of target_of (out-Comparison x)

link_of-is : (x : Comparison) → link_of x ≡ comparison_plain (opened-Comparison x)
unfolding argument_of node_of piece_of place_node_of target_node_of clause_of link_of entry_of exp_of formal_of parameters_of target_of
link_of-is x = fold_out-Comparison (Args → Args) (ℕ → Exp) (Pieces → Pieces) (ℕ → Place) (ℕ → Tgt) ClauseOf (Links → Links) (Entries → Entries) Exp (Formals → Formals) Params Tgt argument_plain expression_plain piece_plain place_plain target_plain clause_plain comparison_plain entry_plain expression_at parameter_plain parameters_plain target_at x

abbrev opened-Entry : Entry → Entry-P
opened-Entry x = map-Entry Argument ExprNode Piece PlaceNode TargetNode Clause Comparison Entry Expr Parameter Parameters Target (Args → Args) (ℕ → Exp) (Pieces → Pieces) (ℕ → Place) (ℕ → Tgt) ClauseOf (Links → Links) (Entries → Entries) Exp (Formals → Formals) Params Tgt argument_of node_of piece_of place_node_of target_node_of clause_of link_of entry_of exp_of formal_of parameters_of target_of (out-Entry x)

entry_of-is : (x : Entry) → entry_of x ≡ entry_plain (opened-Entry x)
unfolding argument_of node_of piece_of place_node_of target_node_of clause_of link_of entry_of exp_of formal_of parameters_of target_of
entry_of-is x = fold_out-Entry (Args → Args) (ℕ → Exp) (Pieces → Pieces) (ℕ → Place) (ℕ → Tgt) ClauseOf (Links → Links) (Entries → Entries) Exp (Formals → Formals) Params Tgt argument_plain expression_plain piece_plain place_plain target_plain clause_plain comparison_plain entry_plain expression_at parameter_plain parameters_plain target_at x

abbrev opened-Expr : Expr → Expr-P
opened-Expr x = map-Expr Argument ExprNode Piece PlaceNode TargetNode Clause Comparison Entry Expr Parameter Parameters Target (Args → Args) (ℕ → Exp) (Pieces → Pieces) (ℕ → Place) (ℕ → Tgt) ClauseOf (Links → Links) (Entries → Entries) Exp (Formals → Formals) Params Tgt argument_of node_of piece_of place_node_of target_node_of clause_of link_of entry_of exp_of formal_of parameters_of target_of (out-Expr x)

pub exp_of-is : (x : Expr) → exp_of x ≡ expression_at (opened-Expr x)
unfolding argument_of node_of piece_of place_node_of target_node_of clause_of link_of entry_of exp_of formal_of parameters_of target_of
exp_of-is x = fold_out-Expr (Args → Args) (ℕ → Exp) (Pieces → Pieces) (ℕ → Place) (ℕ → Tgt) ClauseOf (Links → Links) (Entries → Entries) Exp (Formals → Formals) Params Tgt argument_plain expression_plain piece_plain place_plain target_plain clause_plain comparison_plain entry_plain expression_at parameter_plain parameters_plain target_at x

abbrev opened-Parameter : Parameter → Parameter-P
opened-Parameter x = map-Parameter Argument ExprNode Piece PlaceNode TargetNode Clause Comparison Entry Expr Parameter Parameters Target (Args → Args) (ℕ → Exp) (Pieces → Pieces) (ℕ → Place) (ℕ → Tgt) ClauseOf (Links → Links) (Entries → Entries) Exp (Formals → Formals) Params Tgt argument_of node_of piece_of place_node_of target_node_of clause_of link_of entry_of exp_of formal_of parameters_of target_of (out-Parameter x)

formal_of-is : (x : Parameter) → formal_of x ≡ parameter_plain (opened-Parameter x)
unfolding argument_of node_of piece_of place_node_of target_node_of clause_of link_of entry_of exp_of formal_of parameters_of target_of
formal_of-is x = fold_out-Parameter (Args → Args) (ℕ → Exp) (Pieces → Pieces) (ℕ → Place) (ℕ → Tgt) ClauseOf (Links → Links) (Entries → Entries) Exp (Formals → Formals) Params Tgt argument_plain expression_plain piece_plain place_plain target_plain clause_plain comparison_plain entry_plain expression_at parameter_plain parameters_plain target_at x

abbrev opened-Parameters : Parameters → Parameters-P
opened-Parameters x = map-Parameters Argument ExprNode Piece PlaceNode TargetNode Clause Comparison Entry Expr Parameter Parameters Target (Args → Args) (ℕ → Exp) (Pieces → Pieces) (ℕ → Place) (ℕ → Tgt) ClauseOf (Links → Links) (Entries → Entries) Exp (Formals → Formals) Params Tgt argument_of node_of piece_of place_node_of target_node_of clause_of link_of entry_of exp_of formal_of parameters_of target_of (out-Parameters x)

parameters_of-is : (x : Parameters) → parameters_of x ≡ parameters_plain (opened-Parameters x)
unfolding argument_of node_of piece_of place_node_of target_node_of clause_of link_of entry_of exp_of formal_of parameters_of target_of
parameters_of-is x = fold_out-Parameters (Args → Args) (ℕ → Exp) (Pieces → Pieces) (ℕ → Place) (ℕ → Tgt) ClauseOf (Links → Links) (Entries → Entries) Exp (Formals → Formals) Params Tgt argument_plain expression_plain piece_plain place_plain target_plain clause_plain comparison_plain entry_plain expression_at parameter_plain parameters_plain target_at x

abbrev opened-Target : Target → Target-P
opened-Target x = map-Target Argument ExprNode Piece PlaceNode TargetNode Clause Comparison Entry Expr Parameter Parameters Target (Args → Args) (ℕ → Exp) (Pieces → Pieces) (ℕ → Place) (ℕ → Tgt) ClauseOf (Links → Links) (Entries → Entries) Exp (Formals → Formals) Params Tgt argument_of node_of piece_of place_node_of target_node_of clause_of link_of entry_of exp_of formal_of parameters_of target_of (out-Target x)

target_of-is : (x : Target) → target_of x ≡ target_at (opened-Target x)
unfolding argument_of node_of piece_of place_node_of target_node_of clause_of link_of entry_of exp_of formal_of parameters_of target_of
target_of-is x = fold_out-Target (Args → Args) (ℕ → Exp) (Pieces → Pieces) (ℕ → Place) (ℕ → Tgt) ClauseOf (Links → Links) (Entries → Entries) Exp (Formals → Formals) Params Tgt argument_plain expression_plain piece_plain place_plain target_plain clause_plain comparison_plain entry_plain expression_at parameter_plain parameters_plain target_at x

pub exp_of-Constant : (e : Expr) (k : Constant) → e.node ≡ node.Constant k → exp_of e ≡ S.constant e.line.0 k
exp_of-Constant e k is = exp_of-is e ∙ ap (λ (f : ℕ → Exp). f e.line.0) (node_of-is e.node) ∙ rw (is, node.outs-Constant)

pub exp_of-Name : (e : Expr) (x : List ℕ) → e.node ≡ node.Name x → exp_of e ≡ S.name e.line.0 x
exp_of-Name e x is = exp_of-is e ∙ ap (λ (f : ℕ → Exp). f e.line.0) (node_of-is e.node) ∙ rw (is, node.outs-Name)

pub exp_of-Joined : (e : Expr) (ps : List Piece) → e.node ≡ node.Joined ps → exp_of e ≡ S.joined e.line.0 (chained S.no_pieces (map piece_of ps))
exp_of-Joined e ps is = exp_of-is e ∙ ap (λ (f : ℕ → Exp). f e.line.0) (node_of-is e.node) ∙ rw (is, node.outs-Joined)

pub exp_of-Tuple : (e : Expr) (es : List Expr) → e.node ≡ node.Tuple es → exp_of e ≡ S.tuple e.line.0 (all_of (map exp_of es))
exp_of-Tuple e es is = exp_of-is e ∙ ap (λ (f : ℕ → Exp). f e.line.0) (node_of-is e.node) ∙ rw (is, node.outs-Tuple)

pub exp_of-List : (e : Expr) (es : List Expr) → e.node ≡ node.List es → exp_of e ≡ S.list e.line.0 (all_of (map exp_of es))
exp_of-List e es is = exp_of-is e ∙ ap (λ (f : ℕ → Exp). f e.line.0) (node_of-is e.node) ∙ rw (is, node.outs-List)

pub exp_of-Set : (e : Expr) (es : List Expr) → e.node ≡ node.Set es → exp_of e ≡ S.set e.line.0 (all_of (map exp_of es))
exp_of-Set e es is = exp_of-is e ∙ ap (λ (f : ℕ → Exp). f e.line.0) (node_of-is e.node) ∙ rw (is, node.outs-Set)

pub exp_of-Dict : (e : Expr) (es : List Entry) → e.node ≡ node.Dict es → exp_of e ≡ S.dict e.line.0 (chained S.no_entries (map entry_of es))
exp_of-Dict e es is = exp_of-is e ∙ ap (λ (f : ℕ → Exp). f e.line.0) (node_of-is e.node) ∙ rw (is, node.outs-Dict)

pub exp_of-Attribute : (e : Expr) (a : Expr) (x : List ℕ) → e.node ≡ node.Attribute a x → exp_of e ≡ S.attribute e.line.0 (exp_of a) x
exp_of-Attribute e a x is = exp_of-is e ∙ ap (λ (f : ℕ → Exp). f e.line.0) (node_of-is e.node) ∙ rw (is, node.outs-Attribute)

pub exp_of-Item : (e : Expr) (a : Expr) (i : Expr) → e.node ≡ node.Item a i → exp_of e ≡ S.item e.line.0 (exp_of a) (exp_of i)
exp_of-Item e a i is = exp_of-is e ∙ ap (λ (f : ℕ → Exp). f e.line.0) (node_of-is e.node) ∙ rw (is, node.outs-Item)

pub exp_of-Slice : (e : Expr) (a : Option Expr) (b : Option Expr) (c : Option Expr) → e.node ≡ node.Slice a b c → exp_of e ≡ S.slice e.line.0 (opt_exp a) (opt_exp b) (opt_exp c)
exp_of-Slice e None None None is = exp_of-is e ∙ ap (λ (f : ℕ → Exp). f e.line.0) (node_of-is e.node) ∙ rw (is, node.outs-Slice)
exp_of-Slice e None None (Some c) is = exp_of-is e ∙ ap (λ (f : ℕ → Exp). f e.line.0) (node_of-is e.node) ∙ rw (is, node.outs-Slice)
exp_of-Slice e None (Some b) None is = exp_of-is e ∙ ap (λ (f : ℕ → Exp). f e.line.0) (node_of-is e.node) ∙ rw (is, node.outs-Slice)
exp_of-Slice e None (Some b) (Some c) is = exp_of-is e ∙ ap (λ (f : ℕ → Exp). f e.line.0) (node_of-is e.node) ∙ rw (is, node.outs-Slice)
exp_of-Slice e (Some a) None None is = exp_of-is e ∙ ap (λ (f : ℕ → Exp). f e.line.0) (node_of-is e.node) ∙ rw (is, node.outs-Slice)
exp_of-Slice e (Some a) None (Some c) is = exp_of-is e ∙ ap (λ (f : ℕ → Exp). f e.line.0) (node_of-is e.node) ∙ rw (is, node.outs-Slice)
exp_of-Slice e (Some a) (Some b) None is = exp_of-is e ∙ ap (λ (f : ℕ → Exp). f e.line.0) (node_of-is e.node) ∙ rw (is, node.outs-Slice)
exp_of-Slice e (Some a) (Some b) (Some c) is = exp_of-is e ∙ ap (λ (f : ℕ → Exp). f e.line.0) (node_of-is e.node) ∙ rw (is, node.outs-Slice)

pub exp_of-Unary : (e : Expr) (o : UnOp) (a : Expr) → e.node ≡ node.Unary o a → exp_of e ≡ S.unary e.line.0 o (exp_of a)
exp_of-Unary e o a is = exp_of-is e ∙ ap (λ (f : ℕ → Exp). f e.line.0) (node_of-is e.node) ∙ rw (is, node.outs-Unary)

pub exp_of-Not : (e : Expr) (a : Expr) → e.node ≡ node.Not a → exp_of e ≡ S.not_of e.line.0 (exp_of a)
exp_of-Not e a is = exp_of-is e ∙ ap (λ (f : ℕ → Exp). f e.line.0) (node_of-is e.node) ∙ rw (is, node.outs-Not)

pub exp_of-Binary : (e : Expr) (a : Expr) (o : BinOp) (b : Expr) → e.node ≡ node.Binary a o b → exp_of e ≡ S.binary e.line.0 o (exp_of a) (exp_of b)
exp_of-Binary e a o b is = exp_of-is e ∙ ap (λ (f : ℕ → Exp). f e.line.0) (node_of-is e.node) ∙ rw (is, node.outs-Binary)

pub exp_of-Compare : (e : Expr) (a : Expr) (o : CompareOp) (b : Expr) (cs : List Comparison) → e.node ≡ node.Compare a o b cs → exp_of e ≡ S.compare e.line.0 (exp_of a) o (exp_of b) (chained S.no_links (map link_of cs))
exp_of-Compare e a o b cs is = exp_of-is e ∙ ap (λ (f : ℕ → Exp). f e.line.0) (node_of-is e.node) ∙ rw (is, node.outs-Compare)

pub exp_of-And : (e : Expr) (a : Expr) (es : List Expr) → e.node ≡ node.And a es → exp_of e ≡ S.and e.line.0 (exp_of a) (all_of (map exp_of es))
exp_of-And e a es is = exp_of-is e ∙ ap (λ (f : ℕ → Exp). f e.line.0) (node_of-is e.node) ∙ rw (is, node.outs-And)

pub exp_of-Or : (e : Expr) (a : Expr) (es : List Expr) → e.node ≡ node.Or a es → exp_of e ≡ S.or e.line.0 (exp_of a) (all_of (map exp_of es))
exp_of-Or e a es is = exp_of-is e ∙ ap (λ (f : ℕ → Exp). f e.line.0) (node_of-is e.node) ∙ rw (is, node.outs-Or)

pub exp_of-Conditional : (e : Expr) (c : Expr) (a : Expr) (b : Expr) → e.node ≡ node.Conditional c a b → exp_of e ≡ S.conditional e.line.0 (exp_of c) (exp_of a) (exp_of b)
exp_of-Conditional e c a b is = exp_of-is e ∙ ap (λ (f : ℕ → Exp). f e.line.0) (node_of-is e.node) ∙ rw (is, node.outs-Conditional)

pub exp_of-Call : (e : Expr) (f : Expr) (args : List Argument) → e.node ≡ node.Call f args → exp_of e ≡ S.call e.line.0 (exp_of f) (chained S.no_args (map argument_of args))
exp_of-Call e f args is = exp_of-is e ∙ ap (λ (f : ℕ → Exp). f e.line.0) (node_of-is e.node) ∙ rw (is, node.outs-Call)

pub exp_of-Lambda : (e : Expr) (b : BlockId) (ps : Parameters) (a : Expr) → e.node ≡ node.Lambda b ps a → exp_of e ≡ S.lambda e.line.0 b.0 (parameters_of ps) (exp_of a)
exp_of-Lambda e b ps a is = exp_of-is e ∙ ap (λ (f : ℕ → Exp). f e.line.0) (node_of-is e.node) ∙ rw (is, node.outs-Lambda)

pub exp_of-ListComprehension : (e : Expr) (a : Expr) (c : Clause) (cs : List Clause) → e.node ≡ node.ListComprehension a c cs → exp_of e ≡ S.comprehension e.line.0 (S.a_list (exp_of a)) (clause_of c).line (clause_of c).target (clause_of c).iterable (behind (clause_of c) (map clause_of cs))
exp_of-ListComprehension e a c cs is = exp_of-is e ∙ ap (λ (f : ℕ → Exp). f e.line.0) (node_of-is e.node) ∙ rw (is, node.outs-ListComprehension)

pub exp_of-SetComprehension : (e : Expr) (a : Expr) (c : Clause) (cs : List Clause) → e.node ≡ node.SetComprehension a c cs → exp_of e ≡ S.comprehension e.line.0 (S.a_set (exp_of a)) (clause_of c).line (clause_of c).target (clause_of c).iterable (behind (clause_of c) (map clause_of cs))
exp_of-SetComprehension e a c cs is = exp_of-is e ∙ ap (λ (f : ℕ → Exp). f e.line.0) (node_of-is e.node) ∙ rw (is, node.outs-SetComprehension)

pub exp_of-DictComprehension : (e : Expr) (k : Expr) (v : Expr) (c : Clause) (cs : List Clause) → e.node ≡ node.DictComprehension k v c cs → exp_of e ≡ S.comprehension e.line.0 (S.a_dict (exp_of k) (exp_of v)) (clause_of c).line (clause_of c).target (clause_of c).iterable (behind (clause_of c) (map clause_of cs))
exp_of-DictComprehension e k v c cs is = exp_of-is e ∙ ap (λ (f : ℕ → Exp). f e.line.0) (node_of-is e.node) ∙ rw (is, node.outs-DictComprehension)

pub exp_of-Generator : (e : Expr) (b : BlockId) (a : Expr) (c : Clause) (cs : List Clause) → e.node ≡ node.Generator b a c cs → exp_of e ≡ S.generator e.line.0 b.0 (exp_of a) (clause_of c).line (clause_of c).target (clause_of c).iterable (behind (clause_of c) (map clause_of cs))
exp_of-Generator e b a c cs is = exp_of-is e ∙ ap (λ (f : ℕ → Exp). f e.line.0) (node_of-is e.node) ∙ rw (is, node.outs-Generator)

pub exp_of-Yield : (e : Expr) (o : Option Expr) → e.node ≡ node.Yield o → exp_of e ≡ S.yield e.line.0 (opt_exp o)
exp_of-Yield e None is = exp_of-is e ∙ ap (λ (f : ℕ → Exp). f e.line.0) (node_of-is e.node) ∙ rw (is, node.outs-Yield)
exp_of-Yield e (Some o) is = exp_of-is e ∙ ap (λ (f : ℕ → Exp). f e.line.0) (node_of-is e.node) ∙ rw (is, node.outs-Yield)

pub exp_of-YieldFrom : (e : Expr) (a : Expr) → e.node ≡ node.YieldFrom a → exp_of e ≡ S.yield_from e.line.0 (exp_of a)
exp_of-YieldFrom e a is = exp_of-is e ∙ ap (λ (f : ℕ → Exp). f e.line.0) (node_of-is e.node) ∙ rw (is, node.outs-YieldFrom)

pub place_node_of-Name : (p : PlaceNode) (l : ℕ) (x : List ℕ) → p ≡ place_node.Name x → place_node_of p l ≡ S.name_at l x
place_node_of-Name p l x is = ap (λ (f : ℕ → Place). f l) (place_node_of-is p) ∙ rw (is, place_node.outs-Name)

pub place_node_of-Attribute : (p : PlaceNode) (l : ℕ) (a : Expr) (x : List ℕ) → p ≡ place_node.Attribute a x → place_node_of p l ≡ S.attribute_at l (exp_of a) x
place_node_of-Attribute p l a x is = ap (λ (f : ℕ → Place). f l) (place_node_of-is p) ∙ rw (is, place_node.outs-Attribute)

pub place_node_of-Item : (p : PlaceNode) (l : ℕ) (a : Expr) (i : Expr) → p ≡ place_node.Item a i → place_node_of p l ≡ S.item_at l (exp_of a) (exp_of i)
place_node_of-Item p l a i is = ap (λ (f : ℕ → Place). f l) (place_node_of-is p) ∙ rw (is, place_node.outs-Item)

pub target_of-Place : (t : Target) (p : PlaceNode) → t.node ≡ target_node.Place p → target_of t ≡ S.single (place_node_of p t.line.0)
target_of-Place t p is = target_of-is t ∙ ap (λ (f : ℕ → Tgt). f t.line.0) (target_node_of-is t.node) ∙ rw (is, target_node.outs-Place)

pub target_of-Tuple : (t : Target) (ts : List Target) → t.node ≡ target_node.Tuple ts → target_of t ≡ S.several t.line.0 S.as_tuple (targets_of (map target_of ts))
target_of-Tuple t ts is = target_of-is t ∙ ap (λ (f : ℕ → Tgt). f t.line.0) (target_node_of-is t.node) ∙ rw (is, target_node.outs-Tuple)

pub target_of-List : (t : Target) (ts : List Target) → t.node ≡ target_node.List ts → target_of t ≡ S.several t.line.0 S.as_list (targets_of (map target_of ts))
target_of-List t ts is = target_of-is t ∙ ap (λ (f : ℕ → Tgt). f t.line.0) (target_node_of-is t.node) ∙ rw (is, target_node.outs-List)

pub target_of-Starred : (t : Target) (u : Target) → t.node ≡ target_node.Starred u → target_of t ≡ S.starred t.line.0 (target_of u)
target_of-Starred t u is = target_of-is t ∙ ap (λ (f : ℕ → Tgt). f t.line.0) (target_node_of-is t.node) ∙ rw (is, target_node.outs-Starred)

pub argument_of-Positional : (g : Argument) (r : Args) (a : Expr) → g ≡ argument.Positional a → argument_of g r ≡ S.positional (exp_of a) r
argument_of-Positional g r a is = ap (λ (f : Args → Args). f r) (argument_of-is g) ∙ rw (is, argument.outs-Positional)

pub argument_of-Named : (g : Argument) (r : Args) (x : List ℕ) (a : Expr) → g ≡ argument.Named x a → argument_of g r ≡ S.named x (exp_of a) r
argument_of-Named g r x a is = ap (λ (f : Args → Args). f r) (argument_of-is g) ∙ rw (is, argument.outs-Named)

pub argument_of-Spread : (g : Argument) (r : Args) (a : Expr) → g ≡ argument.Spread a → argument_of g r ≡ S.spread (exp_of a) r
argument_of-Spread g r a is = ap (λ (f : Args → Args). f r) (argument_of-is g) ∙ rw (is, argument.outs-Spread)

pub argument_of-SpreadNamed : (g : Argument) (r : Args) (a : Expr) → g ≡ argument.SpreadNamed a → argument_of g r ≡ S.spread_named (exp_of a) r
argument_of-SpreadNamed g r a is = ap (λ (f : Args → Args). f r) (argument_of-is g) ∙ rw (is, argument.outs-SpreadNamed)

pub piece_of-Literal : (p : Piece) (r : Pieces) (l : Line) (x : List ℕ) → p ≡ piece.Literal l x → piece_of p r ≡ S.literal l.0 x r
piece_of-Literal p r l x is = ap (λ (f : Pieces → Pieces). f r) (piece_of-is p) ∙ rw (is, piece.outs-Literal)

pub piece_of-Field : (p : Piece) (r : Pieces) (l : Line) (a : Expr) (c : Option Conversion) (ps : List Piece) → p ≡ piece.Field l a c ps → piece_of p r ≡ S.field l.0 (exp_of a) c (chained S.no_pieces (map piece_of ps)) r
piece_of-Field p r l a c ps is = ap (λ (f : Pieces → Pieces). f r) (piece_of-is p) ∙ rw (is, piece.outs-Field)

pub clause_of-parts : (c : Clause) → clause_of c ≡ record { line = (out-Clause c).line.0; target = target_of (out-Clause c).target; iterable = exp_of (out-Clause c).iterable; conditions = map exp_of (out-Clause c).conditions }
clause_of-parts c = clause_of-is c

pub link_of-parts : (c : Comparison) (r : Links) → link_of c r ≡ S.link c.operator (exp_of c.right) r
link_of-parts c r = ap (λ (f : Links → Links). f r) (link_of-is c)

pub entry_of-parts : (e : Entry) (r : Entries) → entry_of e r ≡ S.entry (exp_of e.key) (exp_of e.value) r
entry_of-parts e r = ap (λ (f : Entries → Entries). f r) (entry_of-is e)

pub parameters_of-parts : (ps : Parameters) → parameters_of ps ≡ S.parameters (chained S.no_formals (map formal_of (out-Parameters ps).positional)) (out-Parameters ps).star (chained S.no_formals (map formal_of (out-Parameters ps).keyword_only)) (out-Parameters ps).double_star
parameters_of-parts ps = parameters_of-is ps

formal-cases : (p : Parameter-F Argument ExprNode Piece PlaceNode TargetNode Clause Comparison Entry Expr Parameter Parameters Target) (r : Formals) (a d : Option Expr) → p.annotation ≡ a → p.default ≡ d
    → parameter_plain (map-Parameter Argument ExprNode Piece PlaceNode TargetNode Clause Comparison Entry Expr Parameter Parameters Target (Args → Args) (ℕ → Exp) (Pieces → Pieces) (ℕ → Place) (ℕ → Tgt) ClauseOf (Links → Links) (Entries → Entries) Exp (Formals → Formals) Params Tgt argument_of node_of piece_of place_node_of target_node_of clause_of link_of entry_of exp_of formal_of parameters_of target_of p) r ≡ S.formal p.line.0 p.name (opt_exp a) (opt_exp d) r
formal-cases p r None None is_a is_d = rw (is_a, is_d)
formal-cases p r None (Some d) is_a is_d = rw (is_a, is_d)
formal-cases p r (Some a) None is_a is_d = rw (is_a, is_d)
formal-cases p r (Some a) (Some d) is_a is_d = rw (is_a, is_d)

pub formal_of-parts : (p : Parameter) (r : Formals) → formal_of p r ≡ S.formal (out-Parameter p).line.0 (out-Parameter p).name (opt_exp (out-Parameter p).annotation) (opt_exp (out-Parameter p).default) r
formal_of-parts p r = ap (λ (f : Formals → Formals). f r) (formal_of-is p) ∙ formal-cases (out-Parameter p) r (out-Parameter p).annotation (out-Parameter p).default refl refl

pub ruleset expressions = (exp_of-Constant, exp_of-Name, exp_of-Joined, exp_of-Tuple, exp_of-List, exp_of-Set, exp_of-Dict, exp_of-Attribute, exp_of-Item, exp_of-Slice, exp_of-Unary, exp_of-Not, exp_of-Binary, exp_of-Compare, exp_of-And, exp_of-Or, exp_of-Conditional, exp_of-Call, exp_of-Lambda, exp_of-ListComprehension, exp_of-SetComprehension, exp_of-DictComprehension, exp_of-Generator, exp_of-Yield, exp_of-YieldFrom, place_node_of-Name, place_node_of-Attribute, place_node_of-Item, target_of-Place, target_of-Tuple, target_of-List, target_of-Starred, argument_of-Positional, argument_of-Named, argument_of-Spread, argument_of-SpreadNamed, piece_of-Literal, piece_of-Field, clause_of-parts, link_of-parts, entry_of-parts, parameters_of-parts, formal_of-parts)
