-- The statements that code builds, as plain data.
use Rattle.std.specs.Prelude.{ℕ, List, [], ◌∷◌, map, option_map}
use Rattle.pt_tree.specs.declared.statement.StmtNode.TheOpen as node
use Rattle.pt_tree.specs.declared.statement.Stmt.{Stmt, fold-Stmt}
use Rattle.pt_tree.specs.declared.statement.StmtNode.{StmtNode, fold-StmtNode}
use Rattle.pt_tree.specs.declared.statement.Branch.{Branch, fold-Branch}
use Rattle.pt_tree.specs.declared.statement.Handler.{Handler, fold-Handler}
use Rattle.pt_tree.specs.declared.statement.WithItem.{WithItem}
use Rattle.pt_tree.specs.declared.statement.Decorator.{Decorator}
use Rattle.pt_tree.specs.declared.statement.Script.{Script}
use Rattle.pt_tree.specs.Syntax as S
use Rattle.pt_tree.specs.Syntax.{Decorators, Items, Stm, Stms, Branches, Handlers}
use Rattle.pt_tree.specs.Fold.{exp_of, opt_exp, target_of, targets_of, place_of, parameters_of, chained}

abbrev pub stms_from : List Stm → Stms
stms_from [] = S.none
stms_from (s ∷ ss) = S.more s (stms_from ss)

abbrev pub decorators_of : List Decorator → Decorators
decorators_of [] = S.no_decorators
decorators_of (d ∷ ds) = S.decorator d.line.0 (exp_of d.value) (decorators_of ds)

abbrev pub items_of : List WithItem → Items
items_of [] = S.no_items
items_of (i ∷ is) = S.with_item i.line.0 (exp_of i.context) (option_map target_of i.target) (items_of is)

abbrev pub StmtNode-P : Type 0
StmtNode-P = node.StmtNode-F (ℕ → Stm) (Branches → Branches) (Handlers → Handlers) Stm

abbrev pub Branch-P : Type 0
Branch-P = node.Branch-F (ℕ → Stm) (Branches → Branches) (Handlers → Handlers) Stm

abbrev pub Handler-P : Type 0
Handler-P = node.Handler-F (ℕ → Stm) (Branches → Branches) (Handlers → Handlers) Stm

abbrev pub Stmt-P : Type 0
Stmt-P = node.Stmt-F (ℕ → Stm) (Branches → Branches) (Handlers → Handlers) Stm

abbrev pub statement_plain : StmtNode-P → ℕ → Stm
statement_plain (node.Expr e) l = S.expr l (exp_of e)
statement_plain (node.Assign ts e) l = S.assign l (targets_of (map target_of ts)) (exp_of e)
statement_plain (node.Augmented p o e) l = S.augmented l (place_of p) o (exp_of e)
statement_plain (node.Annotated p a v) l = S.annotated l (place_of p) (exp_of a) (opt_exp v)
statement_plain (node.Assert c m) l = S.assert l (exp_of c) (opt_exp m)
statement_plain node.Pass l = S.pass l
statement_plain (node.Del ts) l = S.del l (targets_of (map target_of ts))
statement_plain (node.Return v) l = S.return l (opt_exp v)
statement_plain (node.Raise e c) l = S.raise l (exp_of e) (opt_exp c)
statement_plain node.RaiseAgain l = S.raise_again l
statement_plain node.Break l = S.break l
statement_plain node.Continue l = S.continue l
statement_plain (node.Import xs) l = S.import l xs
statement_plain (node.ImportFrom m xs) l = S.import_from l m xs
statement_plain (node.Global xs) l = S.global l xs
statement_plain (node.Nonlocal xs) l = S.nonlocal l xs
statement_plain (node.If bs els) l = S.choice l (chained S.no_branches bs) (stms_from els)
statement_plain (node.While c body els) l = S.while l (exp_of c) (stms_from body) (stms_from els)
statement_plain (node.For t e body els) l = S.for l (target_of t) (exp_of e) (stms_from body) (stms_from els)
statement_plain (node.Try body hs els fin) l = S.try l (stms_from body) (chained S.no_handlers hs) (stms_from els) (stms_from fin)
statement_plain (node.With is body) l = S.with l (items_of is) (stms_from body)
statement_plain (node.Def ds dl b x ps r body) l = S.def l (decorators_of ds) dl.0 b.0 x (parameters_of ps) (opt_exp r) (stms_from body)
statement_plain (node.Class ds cl b x base body) l = S.class l (decorators_of ds) cl.0 b.0 x (opt_exp base) (stms_from body)

abbrev pub branch_plain : Branch-P → Branches → Branches
branch_plain b r = S.branch b.line.0 (exp_of b.test) (stms_from b.body) r

abbrev pub handler_plain : Handler-P → Handlers → Handlers
handler_plain h r = S.handler h.line.0 (opt_exp h.class) h.name (stms_from h.body) r

abbrev pub statement_at : Stmt-P → Stm
statement_at s = s.node s.line.0

unfoldable pub stm_of : Stmt → Stm
stm_of s = fold-Stmt _ _ _ _ statement_plain branch_plain handler_plain statement_at s

unfoldable pub stm_node_of : StmtNode → ℕ → Stm
stm_node_of n = fold-StmtNode _ _ _ _ statement_plain branch_plain handler_plain statement_at n

unfoldable pub branch_of : Branch → Branches → Branches
branch_of b = fold-Branch _ _ _ _ statement_plain branch_plain handler_plain statement_at b

unfoldable pub handler_of : Handler → Handlers → Handlers
handler_of h = fold-Handler _ _ _ _ statement_plain branch_plain handler_plain statement_at h

abbrev pub stms_of : List Stmt → Stms
stms_of ss = stms_from (map stm_of ss)

abbrev pub script_of : Script → Stms
script_of s = stms_of s.body
