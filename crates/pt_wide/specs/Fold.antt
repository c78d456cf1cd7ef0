-- The wide tree that code builds, as plain data: what each node is, given what its parts are.
use Rattle.std.specs.Prelude.{ℕ, List, [], ◌∷◌, Option, Some, None, option_map}
use Rattle.pt_base.specs.declared.numbers.Line.{Line}
use Rattle.pt_tree.specs.Fold.{chained}
use Rattle.pt_wide.specs.declared.expression.WideArgument.TheOpen as node
use Rattle.pt_wide.specs.declared.expression.WideArgument.{WideArgument, fold-WideArgument}
use Rattle.pt_wide.specs.declared.expression.WideEntry.{WideEntry, fold-WideEntry}
use Rattle.pt_wide.specs.declared.expression.WideNode.{WideNode, fold-WideNode}
use Rattle.pt_wide.specs.declared.expression.WidePiece.{WidePiece, fold-WidePiece}
use Rattle.pt_wide.specs.declared.expression.WideClause.{WideClause, fold-WideClause}
use Rattle.pt_wide.specs.declared.expression.WideComparison.{WideComparison, fold-WideComparison}
use Rattle.pt_wide.specs.declared.expression.WideExpr.{WideExpr, fold-WideExpr}
use Rattle.pt_wide.specs.declared.expression.WideParameter.{WideParameter, fold-WideParameter}
use Rattle.pt_wide.specs.declared.expression.WideParameters.{WideParameters, fold-WideParameters}
use Rattle.pt_wide.specs.Syntax as S
use Rattle.pt_wide.specs.Syntax.{Exp, Exps, Opt, Pieces, Entry, Entries, Links, Args, Clauses, Params, Formals}

abbrev pub all_of : List Exp → Exps
all_of [] = S.no_exps
all_of (e ∷ es) = S.more_exps e (all_of es)

abbrev pub entries_of : List Entry → Entries
entries_of [] = S.no_entries
entries_of (e ∷ es) = S.more_entries e (entries_of es)

abbrev pub opt_of : Option Exp → Opt
opt_of None = S.absent
opt_of (Some e) = S.given e

abbrev pub line_of : Option Line → Option ℕ
line_of None = None
line_of (Some l) = Some l.0

-- The parts of each kind of node as plain data: a piece, an argument and the like wait for those behind them, and an expression for
-- its line.
abbrev pub WideArgument-P : Type 0
WideArgument-P = node.WideArgument-F (Args → Args) Entry (ℕ → Exp) (Pieces → Pieces) (Clauses → Clauses) (Links → Links) Exp (Formals → Formals) Params

abbrev pub WideEntry-P : Type 0
WideEntry-P = node.WideEntry-F (Args → Args) Entry (ℕ → Exp) (Pieces → Pieces) (Clauses → Clauses) (Links → Links) Exp (Formals → Formals) Params

abbrev pub WideNode-P : Type 0
WideNode-P = node.WideNode-F (Args → Args) Entry (ℕ → Exp) (Pieces → Pieces) (Clauses → Clauses) (Links → Links) Exp (Formals → Formals) Params

abbrev pub WidePiece-P : Type 0
WidePiece-P = node.WidePiece-F (Args → Args) Entry (ℕ → Exp) (Pieces → Pieces) (Clauses → Clauses) (Links → Links) Exp (Formals → Formals) Params

abbrev pub WideClause-P : Type 0
WideClause-P = node.WideClause-F (Args → Args) Entry (ℕ → Exp) (Pieces → Pieces) (Clauses → Clauses) (Links → Links) Exp (Formals → Formals) Params

abbrev pub WideComparison-P : Type 0
WideComparison-P = node.WideComparison-F (Args → Args) Entry (ℕ → Exp) (Pieces → Pieces) (Clauses → Clauses) (Links → Links) Exp (Formals → Formals) Params

abbrev pub WideExpr-P : Type 0
WideExpr-P = node.WideExpr-F (Args → Args) Entry (ℕ → Exp) (Pieces → Pieces) (Clauses → Clauses) (Links → Links) Exp (Formals → Formals) Params

abbrev pub WideParameter-P : Type 0
WideParameter-P = node.WideParameter-F (Args → Args) Entry (ℕ → Exp) (Pieces → Pieces) (Clauses → Clauses) (Links → Links) Exp (Formals → Formals) Params

abbrev pub WideParameters-P : Type 0
WideParameters-P = node.WideParameters-F (Args → Args) Entry (ℕ → Exp) (Pieces → Pieces) (Clauses → Clauses) (Links → Links) Exp (Formals → Formals) Params

abbrev pub argument_plain : WideArgument-P → Args → Args
argument_plain (node.Positional e) r = S.positional e r
argument_plain (node.Named l x e) r = S.named l.0 x e r
argument_plain (node.WideArgument::Spread l e) r = S.spread l.0 e r
argument_plain (node.SpreadNamed l e) r = S.spread_named l.0 e r

abbrev pub entry_plain : WideEntry-P → Entry
entry_plain (node.Pair k v) = S.pair k v
entry_plain (node.WideEntry::Spread l e) = S.spread_entry l.0 e

abbrev pub expression_plain : WideNode-P → ℕ → Exp
expression_plain (node.Constant k) l = S.constant l k
expression_plain (node.Name x) l = S.name l x
expression_plain (node.Joined ps) l = S.joined l (chained S.no_pieces ps)
expression_plain (node.Parenthesized e) l = S.parenthesized l e
expression_plain (node.Starred e) l = S.starred l e
expression_plain (node.Tuple es) l = S.tuple l (all_of es)
expression_plain (node.List es) l = S.list l (all_of es)
expression_plain (node.Set es) l = S.set l (all_of es)
expression_plain (node.Dict es) l = S.dict l (entries_of es)
expression_plain (node.Attribute e x) l = S.attribute l e x
expression_plain (node.Item e i) l = S.item l e i
expression_plain (node.Slice a b c) l = S.slice l (opt_of a) (opt_of b) (opt_of c)
expression_plain (node.Unary o e) l = S.unary l o e
expression_plain (node.Not e) l = S.not_of l e
expression_plain (node.Binary a o b) l = S.binary l o a b
expression_plain (node.Compare a o b more) l = S.compare l a o b (chained S.no_links more)
expression_plain (node.And e es) l = S.and l e (all_of es)
expression_plain (node.Or e es) l = S.or l e (all_of es)
expression_plain (node.Conditional c a b) l = S.conditional l c a b
expression_plain (node.Call f args) l = S.call l f (chained S.no_args args)
expression_plain (node.Lambda ps e) l = S.lambda l ps e
expression_plain (node.Comprehension form e c cs) l = S.comprehension l form e (c (chained S.no_clauses cs))
expression_plain (node.DictComprehension e c cs) l = S.dict_comprehension l e (c (chained S.no_clauses cs))
expression_plain (node.Yield o) l = S.yield l (opt_of o)
expression_plain (node.YieldFrom e) l = S.yield_from l e

abbrev pub piece_plain : WidePiece-P → Pieces → Pieces
piece_plain (node.Literal l t) r = S.literal l.0 t r
piece_plain (node.Field l e c spec) r = S.field l.0 e c (chained S.no_pieces spec) r

abbrev pub clause_plain : WideClause-P → Clauses → Clauses
clause_plain c r = S.for_each c.line.0 c.target c.iterable (all_of c.conditions) r

abbrev pub comparison_plain : WideComparison-P → Links → Links
comparison_plain c r = S.link c.operator c.right r

abbrev pub expression_at : WideExpr-P → Exp
expression_at e = e.node e.line.0

abbrev pub parameter_plain : WideParameter-P → Formals → Formals
parameter_plain p r = S.formal p.line.0 p.name (opt_of p.annotation) (opt_of p.default) r

abbrev pub parameters_plain : WideParameters-P → Params
parameters_plain ps = S.parameters (chained S.no_formals ps.positional_only) (line_of ps.slash) (chained S.no_formals ps.positional) ps.star (chained S.no_formals ps.keyword_only) ps.double_star

unfoldable pub argument_of : WideArgument → Args → Args
argument_of x = fold-WideArgument _ _ _ _ _ _ _ _ _ argument_plain entry_plain expression_plain piece_plain clause_plain comparison_plain expression_at parameter_plain parameters_plain x

unfoldable pub entry_of : WideEntry → Entry
entry_of x = fold-WideEntry _ _ _ _ _ _ _ _ _ argument_plain entry_plain expression_plain piece_plain clause_plain comparison_plain expression_at parameter_plain parameters_plain x

unfoldable pub node_of : WideNode → ℕ → Exp
node_of x = fold-WideNode _ _ _ _ _ _ _ _ _ argument_plain entry_plain expression_plain piece_plain clause_plain comparison_plain expression_at parameter_plain parameters_plain x

unfoldable pub piece_of : WidePiece → Pieces → Pieces
piece_of x = fold-WidePiece _ _ _ _ _ _ _ _ _ argument_plain entry_plain expression_plain piece_plain clause_plain comparison_plain expression_at parameter_plain parameters_plain x

unfoldable pub clause_of : WideClause → Clauses → Clauses
clause_of x = fold-WideClause _ _ _ _ _ _ _ _ _ argument_plain entry_plain expression_plain piece_plain clause_plain comparison_plain expression_at parameter_plain parameters_plain x

unfoldable pub link_of : WideComparison → Links → Links
link_of x = fold-WideComparison _ _ _ _ _ _ _ _ _ argument_plain entry_plain expression_plain piece_plain clause_plain comparison_plain expression_at parameter_plain parameters_plain x

unfoldable pub exp_of : WideExpr → Exp
exp_of x = fold-WideExpr _ _ _ _ _ _ _ _ _ argument_plain entry_plain expression_plain piece_plain clause_plain comparison_plain expression_at parameter_plain parameters_plain x

unfoldable pub formal_of : WideParameter → Formals → Formals
formal_of x = fold-WideParameter _ _ _ _ _ _ _ _ _ argument_plain entry_plain expression_plain piece_plain clause_plain comparison_plain expression_at parameter_plain parameters_plain x

unfoldable pub parameters_of : WideParameters → Params
parameters_of x = fold-WideParameters _ _ _ _ _ _ _ _ _ argument_plain entry_plain expression_plain piece_plain clause_plain comparison_plain expression_at parameter_plain parameters_plain x

-- an expression that need not be there
abbrev pub opt_exp : Option WideExpr → Opt
opt_exp o = opt_of (option_map exp_of o)
