-- The plain data of each kind of node, given that of its parts.
use Rattle.std.proofs.Common.{◌≡◌, ℕ, List, refl, ap, ◌∙◌, map, Option, Some, None}
use Rattle.pt_base.specs.declared.operators.UnOp.{UnOp}
use Rattle.pt_base.specs.declared.operators.CompareOp.{CompareOp}
use Rattle.pt_base.specs.declared.numbers.Line.{Line}
use Rattle.pt_tree.specs.declared.expression.Constant.{Constant}
use Rattle.pt_tree.specs.declared.expression.Conversion.{Conversion}
use Rattle.pt_tree.specs.Fold.{chained}
use Rattle.pt_wide.specs.declared.expression.WideBinOp.{WideBinOp}
use Rattle.pt_wide.specs.declared.expression.Comprehension.{Comprehension}
use Rattle.pt_wide.specs.declared.expression.WideArgument.{WideArgument, fold_out-WideArgument, map-WideArgument, out-WideArgument}
use Rattle.pt_wide.specs.declared.expression.WideEntry.{WideEntry, fold_out-WideEntry, map-WideEntry, out-WideEntry}
use Rattle.pt_wide.specs.declared.expression.WideNode.{WideNode, fold_out-WideNode, map-WideNode, out-WideNode}
use Rattle.pt_wide.specs.declared.expression.WidePiece.{WidePiece, fold_out-WidePiece, map-WidePiece, out-WidePiece}
use Rattle.pt_wide.specs.declared.expression.WideClause.{WideClause, fold_out-WideClause, map-WideClause, out-WideClause}
use Rattle.pt_wide.specs.declared.expression.WideComparison.{WideComparison, fold_out-WideComparison, map-WideComparison, out-WideComparison}
use Rattle.pt_wide.specs.declared.expression.WideExpr.{WideExpr, fold_out-WideExpr, map-WideExpr, out-WideExpr}
use Rattle.pt_wide.specs.declared.expression.WideParameter.{WideParameter, fold_out-WideParameter, map-WideParameter, out-WideParameter, WideParameter-F}
use Rattle.pt_wide.specs.declared.expression.WideParameters.{WideParameters, fold_out-WideParameters, map-WideParameters, out-WideParameters}
use Rattle.pt_wide.specs.declared.expression.WideNode.TheVariants as node
use Rattle.pt_wide.specs.declared.expression.WideArgument.TheVariants as argument
use Rattle.pt_wide.specs.declared.expression.WideEntry.TheVariants as entry
use Rattle.pt_wide.specs.declared.expression.WidePiece.TheVariants as piece
use Rattle.pt_wide.specs.Syntax as S
use Rattle.pt_wide.specs.Syntax.{Exp, Pieces, Entry, Links, Args, Clauses, Params, Formals}
use Rattle.pt_wide.specs.Fold.{WideArgument-P, WideEntry-P, WideNode-P, WidePiece-P, WideClause-P, WideComparison-P, WideExpr-P, WideParameter-P, WideParameters-P, argument_plain, entry_plain, expression_plain, piece_plain, clause_plain, comparison_plain, expression_at, parameter_plain, parameters_plain, argument_of, entry_of, node_of, piece_of, clause_of, link_of, exp_of, formal_of, parameters_of, all_of, entries_of, opt_exp, line_of}

abbrev pub opened-WideArgument : WideArgument → WideArgument-P
opened-WideArgument x = map-WideArgument WideArgument WideEntry WideNode WidePiece WideClause WideComparison WideExpr WideParameter WideParameters (Args → Args) Entry (ℕ → Exp) (Pieces → Pieces) (Clauses → Clauses) (Links → Links) Exp (Formals → Formals) Params argument_of entry_of node_of piece_of clause_of link_of exp_of formal_of parameters_of (out-WideArgument x)

pub argument_of-is : (x : WideArgument) → argument_of x ≡ argument_plain (opened-WideArgument x)
unfolding argument_of entry_of node_of piece_of clause_of link_of exp_of formal_of parameters_of
argument_of-is x = fold_out-WideArgument (Args → Args) Entry (ℕ → Exp) (Pieces → Pieces) (Clauses → Clauses) (Links → Links) Exp (Formals → Formals) Params argument_plain entry_plain expression_plain piece_plain clause_plain comparison_plain expression_at parameter_plain parameters_plain x

abbrev pub opened-WideEntry : WideEntry → WideEntry-P
opened-WideEntry x = map-WideEntry WideArgument WideEntry WideNode WidePiece WideClause WideComparison WideExpr WideParameter WideParameters (Args → Args) Entry (ℕ → Exp) (Pieces → Pieces) (Clauses → Clauses) (Links → Links) Exp (Formals → Formals) Params argument_of entry_of node_of piece_of clause_of link_of exp_of formal_of parameters_of (out-WideEntry x)

pub entry_of-is : (x : WideEntry) → entry_of x ≡ entry_plain (opened-WideEntry x)
unfolding argument_of entry_of node_of piece_of clause_of link_of exp_of formal_of parameters_of
entry_of-is x = fold_out-WideEntry (Args → Args) Entry (ℕ → Exp) (Pieces → Pieces) (Clauses → Clauses) (Links → Links) Exp (Formals → Formals) Params argument_plain entry_plain expression_plain piece_plain clause_plain comparison_plain expression_at parameter_plain parameters_plain x

abbrev pub opened-WideNode : WideNode → WideNode-P
opened-WideNode x = map-WideNode WideArgument WideEntry WideNode WidePiece WideClause WideComparison WideExpr WideParameter WideParameters (Args → Args) Entry (ℕ → Exp) (Pieces → Pieces) (Clauses → Clauses) (Links → Links) Exp (Formals → Formals) Params argument_of entry_of node_of piece_of clause_of link_of exp_of formal_of parameters_of (out-WideNode x)

pub node_of-is : (x : WideNode) → node_of x ≡ expression_plain (opened-WideNode x)
unfolding argument_of entry_of node_of piece_of clause_of link_of exp_of formal_of parameters_of
node_of-is x = fold_out-WideNode (Args → Args) Entry (ℕ → Exp) (Pieces → Pieces) (Clauses → Clauses) (Links → Links) Exp (Formals → Formals) Params argument_plain entry_plain expression_plain piece_plain clause_plain comparison_plain expression_at parameter_plain parameters_plain x

abbrev pub opened-WidePiece : WidePiece → WidePiece-P
opened-WidePiece x = map-WidePiece WideArgument WideEntry WideNode WidePiece WideClause WideComparison WideExpr WideParameter WideParameters (Args → Args) Entry (ℕ → Exp) (Pieces → Pieces) (Clauses → Clauses) (Links → Links) Exp (Formals → Formals) Params argument_of entry_of node_of piece_of clause_of link_of exp_of formal_of parameters_of (out-WidePiece x)

pub piece_of-is : (x : WidePiece) → piece_of x ≡ piece_plain (opened-WidePiece x)
unfolding argument_of entry_of node_of piece_of clause_of link_of exp_of formal_of parameters_of
piece_of-is x = fold_out-WidePiece (Args → Args) Entry (ℕ → Exp) (Pieces → Pieces) (Clauses → Clauses) (Links → Links) Exp (Formals → Formals) Params argument_plain entry_plain expression_plain piece_plain clause_plain comparison_plain expression_at parameter_plain parameters_plain x

abbrev pub opened-WideClause : WideClause → WideClause-P
opened-WideClause x = map-WideClause WideArgument WideEntry WideNode WidePiece WideClause WideComparison WideExpr WideParameter WideParameters (Args → Args) Entry (ℕ → Exp) (Pieces → Pieces) (Clauses → Clauses) (Links → Links) Exp (Formals → Formals) Params argument_of entry_of node_of piece_of clause_of link_of exp_of formal_of parameters_of (out-WideClause x)

pub clause_of-is : (x : WideClause) → clause_of x ≡ clause_plain (opened-WideClause x)
unfolding argument_of entry_of node_of piece_of clause_of link_of exp_of formal_of parameters_of
clause_of-is x = fold_out-WideClause (Args → Args) Entry (ℕ → Exp) (Pieces → Pieces) (Clauses → Clauses) (Links → Links) Exp (Formals → Formals) Params argument_plain entry_plain expression_plain piece_plain clause_plain comparison_plain expression_at parameter_plain parameters_plain x

abbrev pub opened-WideComparison : WideComparison → WideComparison-P
opened-WideComparison x = map-WideComparison WideArgument WideEntry WideNode WidePiece WideClause WideComparison WideExpr WideParameter WideParameters (Args → Args) Entry (ℕ → Exp) (Pieces → Pieces) (Clauses → Clauses) (Links → Links) Exp (Formals → Formals) Params argument_of entry_of node_of piece_of clause_of link_of exp_of formal_of parameters_of (out-WideComparison x)

pub link_of-is : (x : WideComparison) → link_of x ≡ comparison_plain (opened-WideComparison x)
unfolding argument_of entry_of node_of piece_of clause_of link_of exp_of formal_of parameters_of
link_of-is x = fold_out-WideComparison (Args → Args) Entry (ℕ → Exp) (Pieces → Pieces) (Clauses → Clauses) (Links → Links) Exp (Formals → Formals) Params argument_plain entry_plain expression_plain piece_plain clause_plain comparison_plain expression_at parameter_plain parameters_plain x

abbrev pub opened-WideExpr : WideExpr → WideExpr-P
opened-WideExpr x = map-WideExpr WideArgument WideEntry WideNode WidePiece WideClause WideComparison WideExpr WideParameter WideParameters (Args → Args) Entry (ℕ → Exp) (Pieces → Pieces) (Clauses → Clauses) (Links → Links) Exp (Formals → Formals) Params argument_of entry_of node_of piece_of clause_of link_of exp_of formal_of parameters_of (out-WideExpr x)

pub exp_of-is : (x : WideExpr) → exp_of x ≡ expression_at (opened-WideExpr x)
unfolding argument_of entry_of node_of piece_of clause_of link_of exp_of formal_of parameters_of
exp_of-is x = fold_out-WideExpr (Args → Args) Entry (ℕ → Exp) (Pieces → Pieces) (Clauses → Clauses) (Links → Links) Exp (Formals → Formals) Params argument_plain entry_plain expression_plain piece_plain clause_plain comparison_plain expression_at parameter_plain parameters_plain x

abbrev pub opened-WideParameter : WideParameter → WideParameter-P
opened-WideParameter x = map-WideParameter WideArgument WideEntry WideNode WidePiece WideClause WideComparison WideExpr WideParameter WideParameters (Args → Args) Entry (ℕ → Exp) (Pieces → Pieces) (Clauses → Clauses) (Links → Links) Exp (Formals → Formals) Params argument_of entry_of node_of piece_of clause_of link_of exp_of formal_of parameters_of (out-WideParameter x)

pub formal_of-is : (x : WideParameter) → formal_of x ≡ parameter_plain (opened-WideParameter x)
unfolding argument_of entry_of node_of piece_of clause_of link_of exp_of formal_of parameters_of
formal_of-is x = fold_out-WideParameter (Args → Args) Entry (ℕ → Exp) (Pieces → Pieces) (Clauses → Clauses) (Links → Links) Exp (Formals → Formals) Params argument_plain entry_plain expression_plain piece_plain clause_plain comparison_plain expression_at parameter_plain parameters_plain x

abbrev pub opened-WideParameters : WideParameters → WideParameters-P
opened-WideParameters x = map-WideParameters WideArgument WideEntry WideNode WidePiece WideClause WideComparison WideExpr WideParameter WideParameters (Args → Args) Entry (ℕ → Exp) (Pieces → Pieces) (Clauses → Clauses) (Links → Links) Exp (Formals → Formals) Params argument_of entry_of node_of piece_of clause_of link_of exp_of formal_of parameters_of (out-WideParameters x)

pub parameters_of-is : (x : WideParameters) → parameters_of x ≡ parameters_plain (opened-WideParameters x)
unfolding argument_of entry_of node_of piece_of clause_of link_of exp_of formal_of parameters_of
parameters_of-is x = fold_out-WideParameters (Args → Args) Entry (ℕ → Exp) (Pieces → Pieces) (Clauses → Clauses) (Links → Links) Exp (Formals → Formals) Params argument_plain entry_plain expression_plain piece_plain clause_plain comparison_plain expression_at parameter_plain parameters_plain x

pub exp_of-Constant : (e : WideExpr) (k : Constant) → e.node ≡ node.Constant k → exp_of e ≡ S.constant e.line.0 k
exp_of-Constant e k is = exp_of-is e ∙ ap (λ (f : ℕ → Exp). f e.line.0) (node_of-is e.node) ∙ rw (is, node.outs-Constant)

pub exp_of-Name : (e : WideExpr) (x : List ℕ) → e.node ≡ node.Name x → exp_of e ≡ S.name e.line.0 x
exp_of-Name e x is = exp_of-is e ∙ ap (λ (f : ℕ → Exp). f e.line.0) (node_of-is e.node) ∙ rw (is, node.outs-Name)

pub exp_of-Joined : (e : WideExpr) (ps : List WidePiece) → e.node ≡ node.Joined ps → exp_of e ≡ S.joined e.line.0 (chained S.no_pieces (map piece_of ps))
exp_of-Joined e ps is = exp_of-is e ∙ ap (λ (f : ℕ → Exp). f e.line.0) (node_of-is e.node) ∙ rw (is, node.outs-Joined)

pub exp_of-Parenthesized : (e : WideExpr) (a : WideExpr) → e.node ≡ node.Parenthesized a → exp_of e ≡ S.parenthesized e.line.0 (exp_of a)
exp_of-Parenthesized e a is = exp_of-is e ∙ ap (λ (f : ℕ → Exp). f e.line.0) (node_of-is e.node) ∙ rw (is, node.outs-Parenthesized)

pub exp_of-Starred : (e : WideExpr) (a : WideExpr) → e.node ≡ node.Starred a → exp_of e ≡ S.starred e.line.0 (exp_of a)
exp_of-Starred e a is = exp_of-is e ∙ ap (λ (f : ℕ → Exp). f e.line.0) (node_of-is e.node) ∙ rw (is, node.outs-Starred)

pub exp_of-Tuple : (e : WideExpr) (es : List WideExpr) → e.node ≡ node.Tuple es → exp_of e ≡ S.tuple e.line.0 (all_of (map exp_of es))
exp_of-Tuple e es is = exp_of-is e ∙ ap (λ (f : ℕ → Exp). f e.line.0) (node_of-is e.node) ∙ rw (is, node.outs-Tuple)

pub exp_of-List : (e : WideExpr) (es : List WideExpr) → e.node ≡ node.List es → exp_of e ≡ S.list e.line.0 (all_of (map exp_of es))
exp_of-List e es is = exp_of-is e ∙ ap (λ (f : ℕ → Exp). f e.line.0) (node_of-is e.node) ∙ rw (is, node.outs-List)

pub exp_of-Set : (e : WideExpr) (es : List WideExpr) → e.node ≡ node.Set es → exp_of e ≡ S.set e.line.0 (all_of (map exp_of es))
exp_of-Set e es is = exp_of-is e ∙ ap (λ (f : ℕ → Exp). f e.line.0) (node_of-is e.node) ∙ rw (is, node.outs-Set)

pub exp_of-Dict : (e : WideExpr) (es : List WideEntry) → e.node ≡ node.Dict es → exp_of e ≡ S.dict e.line.0 (entries_of (map entry_of es))
exp_of-Dict e es is = exp_of-is e ∙ ap (λ (f : ℕ → Exp). f e.line.0) (node_of-is e.node) ∙ rw (is, node.outs-Dict)

pub exp_of-Attribute : (e : WideExpr) (a : WideExpr) (x : List ℕ) → e.node ≡ node.Attribute a x → exp_of e ≡ S.attribute e.line.0 (exp_of a) x
exp_of-Attribute e a x is = exp_of-is e ∙ ap (λ (f : ℕ → Exp). f e.line.0) (node_of-is e.node) ∙ rw (is, node.outs-Attribute)

pub exp_of-Item : (e : WideExpr) (a : WideExpr) (i : WideExpr) → e.node ≡ node.Item a i → exp_of e ≡ S.item e.line.0 (exp_of a) (exp_of i)
exp_of-Item e a i is = exp_of-is e ∙ ap (λ (f : ℕ → Exp). f e.line.0) (node_of-is e.node) ∙ rw (is, node.outs-Item)

pub exp_of-Slice : (e : WideExpr) (a : Option WideExpr) (b : Option WideExpr) (c : Option WideExpr) → e.node ≡ node.Slice a b c → exp_of e ≡ S.slice e.line.0 (opt_exp a) (opt_exp b) (opt_exp c)
exp_of-Slice e None None None is = exp_of-is e ∙ ap (λ (f : ℕ → Exp). f e.line.0) (node_of-is e.node) ∙ rw (is, node.outs-Slice)
exp_of-Slice e None None (Some c) is = exp_of-is e ∙ ap (λ (f : ℕ → Exp). f e.line.0) (node_of-is e.node) ∙ rw (is, node.outs-Slice)
exp_of-Slice e None (Some b) None is = exp_of-is e ∙ ap (λ (f : ℕ → Exp). f e.line.0) (node_of-is e.node) ∙ rw (is, node.outs-Slice)
exp_of-Slice e None (Some b) (Some c) is = exp_of-is e ∙ ap (λ (f : ℕ → Exp). f e.line.0) (node_of-is e.node) ∙ rw (is, node.outs-Slice)
exp_of-Slice e (Some a) None None is = exp_of-is e ∙ ap (λ (f : ℕ → Exp). f e.line.0) (node_of-is e.node) ∙ rw (is, node.outs-Slice)
exp_of-Slice e (Some a) None (Some c) is = exp_of-is e ∙ ap (λ (f : ℕ → Exp). f e.line.0) (node_of-is e.node) ∙ rw (is, node.outs-Slice)
exp_of-Slice e (Some a) (Some b) None is = exp_of-is e ∙ ap (λ (f : ℕ → Exp). f e.line.0) (node_of-is e.node) ∙ rw (is, node.outs-Slice)
exp_of-Slice e (Some a) (Some b) (Some c) is = exp_of-is e ∙ ap (λ (f : ℕ → Exp). f e.line.0) (node_of-is e.node) ∙ rw (is, node.outs-Slice)

pub exp_of-Unary : (e : WideExpr) (o : UnOp) (a : WideExpr) → e.node ≡ node.Unary o a → exp_of e ≡ S.unary e.line.0 o (exp_of a)
exp_of-Unary e o a is = exp_of-is e ∙ ap (λ (f : ℕ → Exp). f e.line.0) (node_of-is e.node) ∙ rw (is, node.outs-Unary)

pub exp_of-Not : (e : WideExpr) (a : WideExpr) → e.node ≡ node.Not a → exp_of e ≡ S.not_of e.line.0 (exp_of a)
exp_of-Not e a is = exp_of-is e ∙ ap (λ (f : ℕ → Exp). f e.line.0) (node_of-is e.node) ∙ rw (is, node.outs-Not)

pub exp_of-Binary : (e : WideExpr) (a : WideExpr) (o : WideBinOp) (b : WideExpr) → e.node ≡ node.Binary a o b → exp_of e ≡ S.binary e.line.0 o (exp_of a) (exp_of b)
exp_of-Binary e a o b is = exp_of-is e ∙ ap (λ (f : ℕ → Exp). f e.line.0) (node_of-is e.node) ∙ rw (is, node.outs-Binary)

pub exp_of-Compare : (e : WideExpr) (a : WideExpr) (o : CompareOp) (b : WideExpr) (cs : List WideComparison) → e.node ≡ node.Compare a o b cs → exp_of e ≡ S.compare e.line.0 (exp_of a) o (exp_of b) (chained S.no_links (map link_of cs))
exp_of-Compare e a o b cs is = exp_of-is e ∙ ap (λ (f : ℕ → Exp). f e.line.0) (node_of-is e.node) ∙ rw (is, node.outs-Compare)

pub exp_of-And : (e : WideExpr) (a : WideExpr) (es : List WideExpr) → e.node ≡ node.And a es → exp_of e ≡ S.and e.line.0 (exp_of a) (all_of (map exp_of es))
exp_of-And e a es is = exp_of-is e ∙ ap (λ (f : ℕ → Exp). f e.line.0) (node_of-is e.node) ∙ rw (is, node.outs-And)

pub exp_of-Or : (e : WideExpr) (a : WideExpr) (es : List WideExpr) → e.node ≡ node.Or a es → exp_of e ≡ S.or e.line.0 (exp_of a) (all_of (map exp_of es))
exp_of-Or e a es is = exp_of-is e ∙ ap (λ (f : ℕ → Exp). f e.line.0) (node_of-is e.node) ∙ rw (is, node.outs-Or)

pub exp_of-Conditional : (e : WideExpr) (c : WideExpr) (a : WideExpr) (b : WideExpr) → e.node ≡ node.Conditional c a b → exp_of e ≡ S.conditional e.line.0 (exp_of c) (exp_of a) (exp_of b)
exp_of-Conditional e c a b is = exp_of-is e ∙ ap (λ (f : ℕ → Exp). f e.line.0) (node_of-is e.node) ∙ rw (is, node.outs-Conditional)

pub exp_of-Call : (e : WideExpr) (f : WideExpr) (args : List WideArgument) → e.node ≡ node.Call f args → exp_of e ≡ S.call e.line.0 (exp_of f) (chained S.no_args (map argument_of args))
exp_of-Call e f args is = exp_of-is e ∙ ap (λ (f : ℕ → Exp). f e.line.0) (node_of-is e.node) ∙ rw (is, node.outs-Call)

pub exp_of-Lambda : (e : WideExpr) (ps : WideParameters) (a : WideExpr) → e.node ≡ node.Lambda ps a → exp_of e ≡ S.lambda e.line.0 (parameters_of ps) (exp_of a)
exp_of-Lambda e ps a is = exp_of-is e ∙ ap (λ (f : ℕ → Exp). f e.line.0) (node_of-is e.node) ∙ rw (is, node.outs-Lambda)

pub exp_of-Comprehension : (e : WideExpr) (form : Comprehension) (a : WideExpr) (c : WideClause) (cs : List WideClause) → e.node ≡ node.Comprehension form a c cs → exp_of e ≡ S.comprehension e.line.0 form (exp_of a) (clause_of c (chained S.no_clauses (map clause_of cs)))
exp_of-Comprehension e form a c cs is = exp_of-is e ∙ ap (λ (f : ℕ → Exp). f e.line.0) (node_of-is e.node) ∙ rw (is, node.outs-Comprehension)

pub exp_of-DictComprehension : (e : WideExpr) (a : WideEntry) (c : WideClause) (cs : List WideClause) → e.node ≡ node.DictComprehension a c cs → exp_of e ≡ S.dict_comprehension e.line.0 (entry_of a) (clause_of c (chained S.no_clauses (map clause_of cs)))
exp_of-DictComprehension e a c cs is = exp_of-is e ∙ ap (λ (f : ℕ → Exp). f e.line.0) (node_of-is e.node) ∙ rw (is, node.outs-DictComprehension)

pub exp_of-Yield : (e : WideExpr) (o : Option WideExpr) → e.node ≡ node.Yield o → exp_of e ≡ S.yield e.line.0 (opt_exp o)
exp_of-Yield e None is = exp_of-is e ∙ ap (λ (f : ℕ → Exp). f e.line.0) (node_of-is e.node) ∙ rw (is, node.outs-Yield)
exp_of-Yield e (Some o) is = exp_of-is e ∙ ap (λ (f : ℕ → Exp). f e.line.0) (node_of-is e.node) ∙ rw (is, node.outs-Yield)

pub exp_of-YieldFrom : (e : WideExpr) (a : WideExpr) → e.node ≡ node.YieldFrom a → exp_of e ≡ S.yield_from e.line.0 (exp_of a)
exp_of-YieldFrom e a is = exp_of-is e ∙ ap (λ (f : ℕ → Exp). f e.line.0) (node_of-is e.node) ∙ rw (is, node.outs-YieldFrom)

pub argument_of-Positional : (g : WideArgument) (r : Args) (a : WideExpr) → g ≡ argument.Positional a → argument_of g r ≡ S.positional (exp_of a) r
argument_of-Positional g r a is = ap (λ (f : Args → Args). f r) (argument_of-is g) ∙ rw (is, argument.outs-Positional)

pub argument_of-Named : (g : WideArgument) (r : Args) (l : Line) (x : List ℕ) (a : WideExpr) → g ≡ argument.Named l x a → argument_of g r ≡ S.named l.0 x (exp_of a) r
argument_of-Named g r l x a is = ap (λ (f : Args → Args). f r) (argument_of-is g) ∙ rw (is, argument.outs-Named)

pub argument_of-Spread : (g : WideArgument) (r : Args) (l : Line) (a : WideExpr) → g ≡ argument.Spread l a → argument_of g r ≡ S.spread l.0 (exp_of a) r
argument_of-Spread g r l a is = ap (λ (f : Args → Args). f r) (argument_of-is g) ∙ rw (is, argument.outs-Spread)

pub argument_of-SpreadNamed : (g : WideArgument) (r : Args) (l : Line) (a : WideExpr) → g ≡ argument.SpreadNamed l a → argument_of g r ≡ S.spread_named l.0 (exp_of a) r
argument_of-SpreadNamed g r l a is = ap (λ (f : Args → Args). f r) (argument_of-is g) ∙ rw (is, argument.outs-SpreadNamed)

pub piece_of-Literal : (p : WidePiece) (r : Pieces) (l : Line) (x : List ℕ) → p ≡ piece.Literal l x → piece_of p r ≡ S.literal l.0 x r
piece_of-Literal p r l x is = ap (λ (f : Pieces → Pieces). f r) (piece_of-is p) ∙ rw (is, piece.outs-Literal)

pub piece_of-Field : (p : WidePiece) (r : Pieces) (l : Line) (a : WideExpr) (c : Option Conversion) (ps : List WidePiece) → p ≡ piece.Field l a c ps → piece_of p r ≡ S.field l.0 (exp_of a) c (chained S.no_pieces (map piece_of ps)) r
piece_of-Field p r l a c ps is = ap (λ (f : Pieces → Pieces). f r) (piece_of-is p) ∙ rw (is, piece.outs-Field)

pub entry_of-Pair : (g : WideEntry) (k v : WideExpr) → g ≡ entry.Pair k v → entry_of g ≡ S.pair (exp_of k) (exp_of v)
entry_of-Pair g k v is = entry_of-is g ∙ rw (is, entry.outs-Pair)

pub entry_of-Spread : (g : WideEntry) (l : Line) (a : WideExpr) → g ≡ entry.Spread l a → entry_of g ≡ S.spread_entry l.0 (exp_of a)
entry_of-Spread g l a is = entry_of-is g ∙ rw (is, entry.outs-Spread)

pub clause_of-parts : (c : WideClause) (r : Clauses) → clause_of c r ≡ S.for_each (out-WideClause c).line.0 (exp_of (out-WideClause c).target) (exp_of (out-WideClause c).iterable) (all_of (map exp_of (out-WideClause c).conditions)) r
clause_of-parts c r = ap (λ (f : Clauses → Clauses). f r) (clause_of-is c)

pub link_of-parts : (c : WideComparison) (r : Links) → link_of c r ≡ S.link c.operator (exp_of c.right) r
link_of-parts c r = ap (λ (f : Links → Links). f r) (link_of-is c)

pub parameters_of-parts : (ps : WideParameters) → parameters_of ps ≡ S.parameters (chained S.no_formals (map formal_of (out-WideParameters ps).positional_only)) (line_of (out-WideParameters ps).slash) (chained S.no_formals (map formal_of (out-WideParameters ps).positional)) (out-WideParameters ps).star (chained S.no_formals (map formal_of (out-WideParameters ps).keyword_only)) (out-WideParameters ps).double_star
parameters_of-parts ps = parameters_of-is ps

formal-cases : (p : WideParameter-F WideArgument WideEntry WideNode WidePiece WideClause WideComparison WideExpr WideParameter WideParameters) (r : Formals) (a d : Option WideExpr) → p.annotation ≡ a → p.default ≡ d
    → parameter_plain (map-WideParameter WideArgument WideEntry WideNode WidePiece WideClause WideComparison WideExpr WideParameter WideParameters (Args → Args) Entry (ℕ → Exp) (Pieces → Pieces) (Clauses → Clauses) (Links → Links) Exp (Formals → Formals) Params argument_of entry_of node_of piece_of clause_of link_of exp_of formal_of parameters_of p) r ≡ S.formal p.line.0 p.name (opt_exp a) (opt_exp d) r
formal-cases p r None None is_a is_d = rw (is_a, is_d)
formal-cases p r None (Some d) is_a is_d = rw (is_a, is_d)
formal-cases p r (Some a) None is_a is_d = rw (is_a, is_d)
formal-cases p r (Some a) (Some d) is_a is_d = rw (is_a, is_d)

pub formal_of-parts : (p : WideParameter) (r : Formals) → formal_of p r ≡ S.formal (out-WideParameter p).line.0 (out-WideParameter p).name (opt_exp (out-WideParameter p).annotation) (opt_exp (out-WideParameter p).default) r
formal_of-parts p r = ap (λ (f : Formals → Formals). f r) (formal_of-is p) ∙ formal-cases (out-WideParameter p) r (out-WideParameter p).annotation (out-WideParameter p).default refl refl

pub ruleset expressions = (exp_of-Constant, exp_of-Name, exp_of-Joined, exp_of-Parenthesized, exp_of-Starred, exp_of-Tuple, exp_of-List, exp_of-Set, exp_of-Dict, exp_of-Attribute, exp_of-Item, exp_of-Slice, exp_of-Unary, exp_of-Not, exp_of-Binary, exp_of-Compare, exp_of-And, exp_of-Or, exp_of-Conditional, exp_of-Call, exp_of-Lambda, exp_of-Comprehension, exp_of-DictComprehension, exp_of-Yield, exp_of-YieldFrom, argument_of-Positional, argument_of-Named, argument_of-Spread, argument_of-SpreadNamed, piece_of-Literal, piece_of-Field, entry_of-Pair, entry_of-Spread, clause_of-parts, link_of-parts, parameters_of-parts, formal_of-parts)
