-- The wide statements that code builds, as plain data.
use Rattle.std.specs.Prelude.{ℕ, List, [], ◌∷◌, map}
use Rattle.pt_tree.specs.Fold.{chained}
use Rattle.pt_wide.specs.declared.statement.WideStmtNode.TheOpen as node
use Rattle.pt_wide.specs.declared.statement.WideStmtNode.{WideStmtNode, fold-WideStmtNode}
use Rattle.pt_wide.specs.declared.statement.WideBranch.{WideBranch, fold-WideBranch}
use Rattle.pt_wide.specs.declared.statement.WideHandler.{WideHandler, fold-WideHandler}
use Rattle.pt_wide.specs.declared.statement.WideStmt.{WideStmt, fold-WideStmt}
use Rattle.pt_wide.specs.declared.statement.WideItem.{WideItem}
use Rattle.pt_wide.specs.declared.statement.WideDecorator.{WideDecorator}
use Rattle.pt_wide.specs.declared.statement.WideScript.{WideScript}
use Rattle.pt_wide.specs.Syntax as S
use Rattle.pt_wide.specs.Syntax.{Decorators, Items, Stm, Stms, Branches, Handlers}
use Rattle.pt_wide.specs.Fold.{all_of, argument_of, exp_of, opt_exp, parameters_of}

abbrev pub stms_from : List Stm → Stms
stms_from [] = S.none
stms_from (s ∷ ss) = S.more s (stms_from ss)

abbrev pub decorators_of : List WideDecorator → Decorators
decorators_of [] = S.no_decorators
decorators_of (d ∷ ds) = S.decorator d.line.0 (exp_of d.value) (decorators_of ds)

abbrev pub items_of : List WideItem → Items
items_of [] = S.no_items
items_of (i ∷ is) = S.with_item i.line.0 (exp_of i.context) (opt_exp i.target) (items_of is)

abbrev pub WideStmtNode-P : Type 0
WideStmtNode-P = node.WideStmtNode-F (ℕ → Stm) (Branches → Branches) (Handlers → Handlers) Stm

abbrev pub WideBranch-P : Type 0
WideBranch-P = node.WideBranch-F (ℕ → Stm) (Branches → Branches) (Handlers → Handlers) Stm

abbrev pub WideHandler-P : Type 0
WideHandler-P = node.WideHandler-F (ℕ → Stm) (Branches → Branches) (Handlers → Handlers) Stm

abbrev pub WideStmt-P : Type 0
WideStmt-P = node.WideStmt-F (ℕ → Stm) (Branches → Branches) (Handlers → Handlers) Stm

abbrev pub statement_plain : WideStmtNode-P → ℕ → Stm
statement_plain (node.Assign ts e) l = S.assign l (all_of (map exp_of ts)) (exp_of e)
statement_plain (node.Augmented t o e) l = S.augmented l (exp_of t) o (exp_of e)
statement_plain (node.Annotated t a v) l = S.annotated l (exp_of t) (exp_of a) (opt_exp v)
statement_plain (node.Assert c m) l = S.assert l (exp_of c) (opt_exp m)
statement_plain node.Pass l = S.pass l
statement_plain (node.Del ts) l = S.del l (all_of (map exp_of ts))
statement_plain (node.Return v) l = S.return l (opt_exp v)
statement_plain (node.Raise e c) l = S.raise l (exp_of e) (opt_exp c)
statement_plain node.RaiseAgain l = S.raise_again l
statement_plain node.Break l = S.break l
statement_plain node.Continue l = S.continue l
statement_plain (node.Import xs) l = S.import l xs
statement_plain (node.ImportFrom dots m xs) l = S.import_from l dots m xs
statement_plain (node.Global xs) l = S.global l xs
statement_plain (node.Nonlocal xs) l = S.nonlocal l xs
statement_plain (node.If bs els) l = S.choice l (chained S.no_branches bs) (stms_from els)
statement_plain (node.While c body els) l = S.while l (exp_of c) (stms_from body) (stms_from els)
statement_plain (node.For t e body els) l = S.for l (exp_of t) (exp_of e) (stms_from body) (stms_from els)
statement_plain (node.Try body hs els fin) l = S.try l (stms_from body) (chained S.no_handlers hs) (stms_from els) (stms_from fin)
statement_plain (node.With is body) l = S.with l (items_of is) (stms_from body)
statement_plain (node.Def ds dl x ps r body) l = S.def l (decorators_of ds) dl.0 x (parameters_of ps) (opt_exp r) (stms_from body)
statement_plain (node.Class ds cl x args comma body) l = S.class l (decorators_of ds) cl.0 x (chained S.no_args (map argument_of args)) comma (stms_from body)

abbrev pub branch_plain : WideBranch-P → Branches → Branches
branch_plain b r = S.branch b.line.0 (exp_of b.test) (stms_from b.body) r

abbrev pub handler_plain : WideHandler-P → Handlers → Handlers
handler_plain h r = S.handler h.line.0 h.star (opt_exp h.class) h.name (stms_from h.body) r

abbrev pub statement_at : WideStmt-P → Stm
statement_at s = s.node s.line.0

unfoldable pub stm_node_of : WideStmtNode → ℕ → Stm
stm_node_of x = fold-WideStmtNode _ _ _ _ statement_plain branch_plain handler_plain statement_at x

unfoldable pub branch_of : WideBranch → Branches → Branches
branch_of x = fold-WideBranch _ _ _ _ statement_plain branch_plain handler_plain statement_at x

unfoldable pub handler_of : WideHandler → Handlers → Handlers
handler_of x = fold-WideHandler _ _ _ _ statement_plain branch_plain handler_plain statement_at x

unfoldable pub stm_of : WideStmt → Stm
stm_of x = fold-WideStmt _ _ _ _ statement_plain branch_plain handler_plain statement_at x

abbrev pub stms_of : List WideStmt → Stms
stms_of ss = stms_from (map stm_of ss)

abbrev pub script_of : WideScript → Stms
script_of s = stms_of s.body
