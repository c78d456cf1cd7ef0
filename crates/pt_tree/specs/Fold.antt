-- The tree that code builds, as plain data: what each node is, given what its parts are.
use Rattle.std.specs.Prelude.{ℕ, List, [], ◌∷◌, Option, Some, None, option_map}
use Rattle.pt_tree.specs.declared.expression.Argument.TheOpen as node
use Rattle.pt_tree.specs.declared.expression.Expr.{Expr, fold-Expr}
use Rattle.pt_tree.specs.declared.expression.ExprNode.{ExprNode, fold-ExprNode}
use Rattle.pt_tree.specs.declared.expression.Target.{Target, fold-Target}
use Rattle.pt_tree.specs.declared.expression.TargetNode.{TargetNode, fold-TargetNode}
use Rattle.pt_tree.specs.declared.expression.PlaceNode.{PlaceNode, fold-PlaceNode}
use Rattle.pt_tree.specs.declared.expression.Parameters.{Parameters, fold-Parameters}
use Rattle.pt_tree.specs.declared.expression.Place.{Place as RustPlace}
use Rattle.pt_tree.specs.declared.expression.Parameter.{Parameter, fold-Parameter}
use Rattle.pt_tree.specs.declared.expression.Argument.{Argument, fold-Argument}
use Rattle.pt_tree.specs.declared.expression.Piece.{Piece, fold-Piece}
use Rattle.pt_tree.specs.declared.expression.Entry.{Entry, fold-Entry}
use Rattle.pt_tree.specs.declared.expression.Comparison.{Comparison, fold-Comparison}
use Rattle.pt_tree.specs.declared.expression.Clause.{Clause, fold-Clause}
use Rattle.pt_tree.specs.Syntax as S
use Rattle.pt_tree.specs.Syntax.{Exp, Exps, Opt, Pieces, Entries, Links, Args, Made, Clauses, Place, Tgt, Tgts, Params, Formals}

abbrev pub all_of : List Exp → Exps
all_of [] = S.no_exps
all_of (e ∷ es) = S.more_exps e (all_of es)

abbrev pub opt_of : Option Exp → Opt
opt_of None = S.absent
opt_of (Some e) = S.given e

abbrev pub targets_of : List Tgt → Tgts
targets_of [] = S.no_targets
targets_of (t ∷ ts) = S.more_targets t (targets_of ts)

-- each part of a list, put before those behind it
abbrev pub chained : {A : Type 0} → A → List (A → A) → A
chained end [] = end
chained end (f ∷ fs) = f (chained end fs)

abbrev pub conditions_of : List Exp → Clauses → Clauses
conditions_of [] cs = cs
conditions_of (e ∷ es) cs = S.only_if e (conditions_of es cs)

-- a clause of a comprehension, whose conditions come behind it
pub record ClauseOf : Type 0 where
  pub line : ℕ
  pub target : Tgt
  pub iterable : Exp
  pub conditions : List Exp

abbrev pub clauses_of : List ClauseOf → Clauses
clauses_of [] = S.no_clauses
clauses_of (c ∷ cs) = S.for_each c.line c.target c.iterable (conditions_of c.conditions (clauses_of cs))

-- what stands behind a first clause's iterable
abbrev pub behind : ClauseOf → List ClauseOf → Clauses
behind c cs = conditions_of c.conditions (clauses_of cs)

-- The parts of each kind of node as plain data: a piece, an entry and the like wait for those behind them, and an expression, a
-- target and a place for their line.
abbrev pub Argument-P : Type 0
Argument-P = node.Argument-F (Args → Args) (ℕ → Exp) (Pieces → Pieces) (ℕ → Place) (ℕ → Tgt) ClauseOf (Links → Links) (Entries → Entries) Exp (Formals → Formals) Params Tgt

abbrev pub ExprNode-P : Type 0
ExprNode-P = node.ExprNode-F (Args → Args) (ℕ → Exp) (Pieces → Pieces) (ℕ → Place) (ℕ → Tgt) ClauseOf (Links → Links) (Entries → Entries) Exp (Formals → Formals) Params Tgt

abbrev pub Piece-P : Type 0
Piece-P = node.Piece-F (Args → Args) (ℕ → Exp) (Pieces → Pieces) (ℕ → Place) (ℕ → Tgt) ClauseOf (Links → Links) (Entries → Entries) Exp (Formals → Formals) Params Tgt

abbrev pub PlaceNode-P : Type 0
PlaceNode-P = node.PlaceNode-F (Args → Args) (ℕ → Exp) (Pieces → Pieces) (ℕ → Place) (ℕ → Tgt) ClauseOf (Links → Links) (Entries → Entries) Exp (Formals → Formals) Params Tgt

abbrev pub TargetNode-P : Type 0
TargetNode-P = node.TargetNode-F (Args → Args) (ℕ → Exp) (Pieces → Pieces) (ℕ → Place) (ℕ → Tgt) ClauseOf (Links → Links) (Entries → Entries) Exp (Formals → Formals) Params Tgt

abbrev pub Clause-P : Type 0
Clause-P = node.Clause-F (Args → Args) (ℕ → Exp) (Pieces → Pieces) (ℕ → Place) (ℕ → Tgt) ClauseOf (Links → Links) (Entries → Entries) Exp (Formals → Formals) Params Tgt

abbrev pub Comparison-P : Type 0
Comparison-P = node.Comparison-F (Args → Args) (ℕ → Exp) (Pieces → Pieces) (ℕ → Place) (ℕ → Tgt) ClauseOf (Links → Links) (Entries → Entries) Exp (Formals → Formals) Params Tgt

abbrev pub Entry-P : Type 0
Entry-P = node.Entry-F (Args → Args) (ℕ → Exp) (Pieces → Pieces) (ℕ → Place) (ℕ → Tgt) ClauseOf (Links → Links) (Entries → Entries) Exp (Formals → Formals) Params Tgt

abbrev pub Expr-P : Type 0
Expr-P = node.Expr-F (Args → Args) (ℕ → Exp) (Pieces → Pieces) (ℕ → Place) (ℕ → Tgt) ClauseOf (Links → Links) (Entries → Entries) Exp (Formals → Formals) Params Tgt

abbrev pub Parameter-P : Type 0
Parameter-P = node.Parameter-F (Args → Args) (ℕ → Exp) (Pieces → Pieces) (ℕ → Place) (ℕ → Tgt) ClauseOf (Links → Links) (Entries → Entries) Exp (Formals → Formals) Params Tgt

abbrev pub Parameters-P : Type 0
Parameters-P = node.Parameters-F (Args → Args) (ℕ → Exp) (Pieces → Pieces) (ℕ → Place) (ℕ → Tgt) ClauseOf (Links → Links) (Entries → Entries) Exp (Formals → Formals) Params Tgt

abbrev pub Target-P : Type 0
Target-P = node.Target-F (Args → Args) (ℕ → Exp) (Pieces → Pieces) (ℕ → Place) (ℕ → Tgt) ClauseOf (Links → Links) (Entries → Entries) Exp (Formals → Formals) Params Tgt

abbrev pub argument_plain : Argument-P → Args → Args
argument_plain (node.Positional e) r = S.positional e r
argument_plain (node.Named x e) r = S.named x e r
argument_plain (node.Spread e) r = S.spread e r
argument_plain (node.SpreadNamed e) r = S.spread_named e r

abbrev pub expression_plain : ExprNode-P → ℕ → Exp
expression_plain (node.Constant k) l = S.constant l k
expression_plain (node.ExprNode::Name x) l = S.name l x
expression_plain (node.Joined ps) l = S.joined l (chained S.no_pieces ps)
expression_plain (node.ExprNode::Tuple es) l = S.tuple l (all_of es)
expression_plain (node.ExprNode::List es) l = S.list l (all_of es)
expression_plain (node.Set es) l = S.set l (all_of es)
expression_plain (node.Dict es) l = S.dict l (chained S.no_entries es)
expression_plain (node.ExprNode::Attribute e x) l = S.attribute l e x
expression_plain (node.ExprNode::Item e i) l = S.item l e i
expression_plain (node.Slice a b c) l = S.slice l (opt_of a) (opt_of b) (opt_of c)
expression_plain (node.Unary o e) l = S.unary l o e
expression_plain (node.Not e) l = S.not_of l e
expression_plain (node.Binary a o b) l = S.binary l o a b
expression_plain (node.Compare a o b more) l = S.compare l a o b (chained S.no_links more)
expression_plain (node.And e es) l = S.and l e (all_of es)
expression_plain (node.Or e es) l = S.or l e (all_of es)
expression_plain (node.Conditional c a b) l = S.conditional l c a b
expression_plain (node.Call f args) l = S.call l f (chained S.no_args args)
expression_plain (node.Lambda b ps e) l = S.lambda l b.0 ps e
expression_plain (node.ListComprehension e c cs) l = S.comprehension l (S.a_list e) c.line c.target c.iterable (behind c cs)
expression_plain (node.SetComprehension e c cs) l = S.comprehension l (S.a_set e) c.line c.target c.iterable (behind c cs)
expression_plain (node.DictComprehension k v c cs) l = S.comprehension l (S.a_dict k v) c.line c.target c.iterable (behind c cs)
expression_plain (node.Generator b e c cs) l = S.generator l b.0 e c.line c.target c.iterable (behind c cs)
expression_plain (node.Yield o) l = S.yield l (opt_of o)
expression_plain (node.YieldFrom e) l = S.yield_from l e

abbrev pub piece_plain : Piece-P → Pieces → Pieces
piece_plain (node.Literal l t) r = S.literal l.0 t r
piece_plain (node.Field l e c spec) r = S.field l.0 e c (chained S.no_pieces spec) r

abbrev pub place_plain : PlaceNode-P → ℕ → Place
place_plain (node.PlaceNode::Name x) l = S.name_at l x
place_plain (node.PlaceNode::Attribute e x) l = S.attribute_at l e x
place_plain (node.PlaceNode::Item e i) l = S.item_at l e i

abbrev pub target_plain : TargetNode-P → ℕ → Tgt
target_plain (node.Place p) l = S.single (p l)
target_plain (node.TargetNode::Tuple ts) l = S.several l S.as_tuple (targets_of ts)
target_plain (node.TargetNode::List ts) l = S.several l S.as_list (targets_of ts)
target_plain (node.Starred t) l = S.starred l t

abbrev pub clause_plain : Clause-P → ClauseOf
clause_plain c = record { line = c.line.0; target = c.target; iterable = c.iterable; conditions = c.conditions }

abbrev pub comparison_plain : Comparison-P → Links → Links
comparison_plain c r = S.link c.operator c.right r

abbrev pub entry_plain : Entry-P → Entries → Entries
entry_plain e r = S.entry e.key e.value r

abbrev pub expression_at : Expr-P → Exp
expression_at e = e.node e.line.0

abbrev pub parameter_plain : Parameter-P → Formals → Formals
parameter_plain p r = S.formal p.line.0 p.name (opt_of p.annotation) (opt_of p.default) r

abbrev pub parameters_plain : Parameters-P → Params
parameters_plain ps = S.parameters (chained S.no_formals ps.positional) ps.star (chained S.no_formals ps.keyword_only) ps.double_star

abbrev pub target_at : Target-P → Tgt
target_at t = t.node t.line.0

unfoldable pub argument_of : Argument → Args → Args
argument_of e = fold-Argument _ _ _ _ _ _ _ _ _ _ _ _ argument_plain expression_plain piece_plain place_plain target_plain clause_plain comparison_plain entry_plain expression_at parameter_plain parameters_plain target_at e

unfoldable pub node_of : ExprNode → ℕ → Exp
node_of e = fold-ExprNode _ _ _ _ _ _ _ _ _ _ _ _ argument_plain expression_plain piece_plain place_plain target_plain clause_plain comparison_plain entry_plain expression_at parameter_plain parameters_plain target_at e

unfoldable pub piece_of : Piece → Pieces → Pieces
piece_of e = fold-Piece _ _ _ _ _ _ _ _ _ _ _ _ argument_plain expression_plain piece_plain place_plain target_plain clause_plain comparison_plain entry_plain expression_at parameter_plain parameters_plain target_at e

unfoldable pub place_node_of : PlaceNode → ℕ → Place
place_node_of e = fold-PlaceNode _ _ _ _ _ _ _ _ _ _ _ _ argument_plain expression_plain piece_plain place_plain target_plain clause_plain comparison_plain entry_plain expression_at parameter_plain parameters_plain target_at e

unfoldable pub target_node_of : TargetNode → ℕ → Tgt
target_node_of e = fold-TargetNode _ _ _ _ _ _ _ _ _ _ _ _ argument_plain expression_plain piece_plain place_plain target_plain clause_plain comparison_plain entry_plain expression_at parameter_plain parameters_plain target_at e

unfoldable pub clause_of : Clause → ClauseOf
clause_of e = fold-Clause _ _ _ _ _ _ _ _ _ _ _ _ argument_plain expression_plain piece_plain place_plain target_plain clause_plain comparison_plain entry_plain expression_at parameter_plain parameters_plain target_at e

unfoldable pub link_of : Comparison → Links → Links
link_of e = fold-Comparison _ _ _ _ _ _ _ _ _ _ _ _ argument_plain expression_plain piece_plain place_plain target_plain clause_plain comparison_plain entry_plain expression_at parameter_plain parameters_plain target_at e

unfoldable pub entry_of : Entry → Entries → Entries
entry_of e = fold-Entry _ _ _ _ _ _ _ _ _ _ _ _ argument_plain expression_plain piece_plain place_plain target_plain clause_plain comparison_plain entry_plain expression_at parameter_plain parameters_plain target_at e

unfoldable pub exp_of : Expr → Exp
exp_of e = fold-Expr _ _ _ _ _ _ _ _ _ _ _ _ argument_plain expression_plain piece_plain place_plain target_plain clause_plain comparison_plain entry_plain expression_at parameter_plain parameters_plain target_at e

unfoldable pub formal_of : Parameter → Formals → Formals
formal_of e = fold-Parameter _ _ _ _ _ _ _ _ _ _ _ _ argument_plain expression_plain piece_plain place_plain target_plain clause_plain comparison_plain entry_plain expression_at parameter_plain parameters_plain target_at e

unfoldable pub parameters_of : Parameters → Params
parameters_of e = fold-Parameters _ _ _ _ _ _ _ _ _ _ _ _ argument_plain expression_plain piece_plain place_plain target_plain clause_plain comparison_plain entry_plain expression_at parameter_plain parameters_plain target_at e

unfoldable pub target_of : Target → Tgt
target_of e = fold-Target _ _ _ _ _ _ _ _ _ _ _ _ argument_plain expression_plain piece_plain place_plain target_plain clause_plain comparison_plain entry_plain expression_at parameter_plain parameters_plain target_at e

abbrev pub place_of : RustPlace → Place
place_of p = place_node_of p.node p.line.0

-- an expression that need not be there
abbrev pub opt_exp : Option Expr → Opt
opt_exp o = opt_of (option_map exp_of o)
