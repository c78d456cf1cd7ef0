-- The plain data of each kind of wide statement, given that of its parts.
use Rattle.std.proofs.Common.{◌≡◌, ℕ, List, ap, ◌∙◌, map, Option, Bool}
use Rattle.pt_base.specs.declared.operators.BinOp.{BinOp}
use Rattle.pt_base.specs.declared.numbers.Line.{Line}
use Rattle.pt_tree.specs.declared.statement.Alias.{Alias}
use Rattle.pt_tree.specs.Fold.{chained}
use Rattle.pt_wide.specs.declared.expression.WideExpr.{WideExpr}
use Rattle.pt_wide.specs.declared.expression.WideArgument.{WideArgument}
use Rattle.pt_wide.specs.declared.expression.WideParameters.{WideParameters}
use Rattle.pt_wide.specs.declared.statement.WideItem.{WideItem}
use Rattle.pt_wide.specs.declared.statement.WideDecorator.{WideDecorator}
use Rattle.pt_wide.specs.declared.statement.WideStmtNode.{WideStmtNode, fold_out-WideStmtNode, map-WideStmtNode, out-WideStmtNode}
use Rattle.pt_wide.specs.declared.statement.WideBranch.{WideBranch, fold_out-WideBranch, map-WideBranch, out-WideBranch}
use Rattle.pt_wide.specs.declared.statement.WideHandler.{WideHandler, fold_out-WideHandler, map-WideHandler, out-WideHandler}
use Rattle.pt_wide.specs.declared.statement.WideStmt.{WideStmt, fold_out-WideStmt, map-WideStmt, out-WideStmt}
use Rattle.pt_wide.specs.declared.statement.WideStmtNode.TheVariants as node
use Rattle.pt_wide.specs.Syntax as S
use Rattle.pt_wide.specs.Syntax.{Stm, Stms, Branches, Handlers}
use Rattle.pt_wide.specs.Fold.{all_of, argument_of, exp_of, opt_exp, parameters_of}
use Rattle.pt_wide.specs.StatementFold.{WideStmtNode-P, WideBranch-P, WideHandler-P, WideStmt-P, statement_plain, branch_plain, handler_plain, statement_at, stm_node_of, branch_of, handler_of, stm_of, decorators_of, items_of, stms_of}

abbrev pub opened-WideStmtNode : WideStmtNode → WideStmtNode-P
opened-WideStmtNode x = map-WideStmtNode WideStmtNode WideBranch WideHandler WideStmt (ℕ → Stm) (Branches → Branches) (Handlers → Handlers) Stm stm_node_of branch_of handler_of stm_of (out-WideStmtNode x)

pub stm_node_of-is : (x : WideStmtNode) → stm_node_of x ≡ statement_plain (opened-WideStmtNode x)
unfolding stm_node_of branch_of handler_of stm_of
stm_node_of-is x = fold_out-WideStmtNode (ℕ → Stm) (Branches → Branches) (Handlers → Handlers) Stm statement_plain branch_plain handler_plain statement_at x

abbrev pub opened-WideBranch : WideBranch → WideBranch-P
opened-WideBranch x = map-WideBranch WideStmtNode WideBranch WideHandler WideStmt (ℕ → Stm) (Branches → Branches) (Handlers → Handlers) Stm stm_node_of branch_of handler_of stm_of (out-WideBranch x)

pub branch_of-is : (x : WideBranch) → branch_of x ≡ branch_plain (opened-WideBranch x)
unfolding stm_node_of branch_of handler_of stm_of
branch_of-is x = fold_out-WideBranch (ℕ → Stm) (Branches → Branches) (Handlers → Handlers) Stm statement_plain branch_plain handler_plain statement_at x

abbrev pub opened-WideHandler : WideHandler → WideHandler-P
opened-WideHandler x = map-WideHandler WideStmtNode WideBranch WideHandler WideStmt (ℕ → Stm) (Branches → Branches) (Handlers → Handlers) Stm stm_node_of branch_of handler_of stm_of (out-WideHandler x)

pub handler_of-is : (x : WideHandler) → handler_of x ≡ handler_plain (opened-WideHandler x)
unfolding stm_node_of branch_of handler_of stm_of
handler_of-is x = fold_out-WideHandler (ℕ → Stm) (Branches → Branches) (Handlers → Handlers) Stm statement_plain branch_plain handler_plain statement_at x

abbrev pub opened-WideStmt : WideStmt → WideStmt-P
opened-WideStmt x = map-WideStmt WideStmtNode WideBranch WideHandler WideStmt (ℕ → Stm) (Branches → Branches) (Handlers → Handlers) Stm stm_node_of branch_of handler_of stm_of (out-WideStmt x)

pub stm_of-is : (x : WideStmt) → stm_of x ≡ statement_at (opened-WideStmt x)
unfolding stm_node_of branch_of handler_of stm_of
stm_of-is x = fold_out-WideStmt (ℕ → Stm) (Branches → Branches) (Handlers → Handlers) Stm statement_plain branch_plain handler_plain statement_at x

pub stm_of-Assign : (s : WideStmt) (ts : List WideExpr) (a : WideExpr) → s.node ≡ node.Assign ts a → stm_of s ≡ S.assign s.line.0 (all_of (map exp_of ts)) (exp_of a)
stm_of-Assign s ts a h = stm_of-is s ∙ ap (λ (f : ℕ → Stm). f s.line.0) (stm_node_of-is s.node) ∙ rw (h, node.outs-Assign)

pub stm_of-Augmented : (s : WideStmt) (t : WideExpr) (o : BinOp) (a : WideExpr) → s.node ≡ node.Augmented t o a → stm_of s ≡ S.augmented s.line.0 (exp_of t) o (exp_of a)
stm_of-Augmented s t o a h = stm_of-is s ∙ ap (λ (f : ℕ → Stm). f s.line.0) (stm_node_of-is s.node) ∙ rw (h, node.outs-Augmented)

pub stm_of-Annotated : (s : WideStmt) (t : WideExpr) (n : WideExpr) (v : Option WideExpr) → s.node ≡ node.Annotated t n v → stm_of s ≡ S.annotated s.line.0 (exp_of t) (exp_of n) (opt_exp v)
stm_of-Annotated s t n v h = stm_of-is s ∙ ap (λ (f : ℕ → Stm). f s.line.0) (stm_node_of-is s.node) ∙ rw (h, node.outs-Annotated)

pub stm_of-Assert : (s : WideStmt) (c : WideExpr) (m : Option WideExpr) → s.node ≡ node.Assert c m → stm_of s ≡ S.assert s.line.0 (exp_of c) (opt_exp m)
stm_of-Assert s c m h = stm_of-is s ∙ ap (λ (f : ℕ → Stm). f s.line.0) (stm_node_of-is s.node) ∙ rw (h, node.outs-Assert)

pub stm_of-Pass : (s : WideStmt) → s.node ≡ node.Pass → stm_of s ≡ S.pass s.line.0
stm_of-Pass s h = stm_of-is s ∙ ap (λ (f : ℕ → Stm). f s.line.0) (stm_node_of-is s.node) ∙ rw (h, node.outs-Pass)

pub stm_of-Del : (s : WideStmt) (ts : List WideExpr) → s.node ≡ node.Del ts → stm_of s ≡ S.del s.line.0 (all_of (map exp_of ts))
stm_of-Del s ts h = stm_of-is s ∙ ap (λ (f : ℕ → Stm). f s.line.0) (stm_node_of-is s.node) ∙ rw (h, node.outs-Del)

pub stm_of-Return : (s : WideStmt) (v : Option WideExpr) → s.node ≡ node.Return v → stm_of s ≡ S.return s.line.0 (opt_exp v)
stm_of-Return s v h = stm_of-is s ∙ ap (λ (f : ℕ → Stm). f s.line.0) (stm_node_of-is s.node) ∙ rw (h, node.outs-Return)

pub stm_of-Raise : (s : WideStmt) (a : WideExpr) (c : Option WideExpr) → s.node ≡ node.Raise a c → stm_of s ≡ S.raise s.line.0 (exp_of a) (opt_exp c)
stm_of-Raise s a c h = stm_of-is s ∙ ap (λ (f : ℕ → Stm). f s.line.0) (stm_node_of-is s.node) ∙ rw (h, node.outs-Raise)

pub stm_of-RaiseAgain : (s : WideStmt) → s.node ≡ node.RaiseAgain → stm_of s ≡ S.raise_again s.line.0
stm_of-RaiseAgain s h = stm_of-is s ∙ ap (λ (f : ℕ → Stm). f s.line.0) (stm_node_of-is s.node) ∙ rw (h, node.outs-RaiseAgain)

pub stm_of-Break : (s : WideStmt) → s.node ≡ node.Break → stm_of s ≡ S.break s.line.0
stm_of-Break s h = stm_of-is s ∙ ap (λ (f : ℕ → Stm). f s.line.0) (stm_node_of-is s.node) ∙ rw (h, node.outs-Break)

pub stm_of-Continue : (s : WideStmt) → s.node ≡ node.Continue → stm_of s ≡ S.continue s.line.0
stm_of-Continue s h = stm_of-is s ∙ ap (λ (f : ℕ → Stm). f s.line.0) (stm_node_of-is s.node) ∙ rw (h, node.outs-Continue)

pub stm_of-Import : (s : WideStmt) (xs : List Alias) → s.node ≡ node.Import xs → stm_of s ≡ S.import s.line.0 xs
stm_of-Import s xs h = stm_of-is s ∙ ap (λ (f : ℕ → Stm). f s.line.0) (stm_node_of-is s.node) ∙ rw (h, node.outs-Import)

pub stm_of-ImportFrom : (s : WideStmt) (dots : ℕ) (m : List ℕ) (xs : Option (List Alias)) → s.node ≡ node.ImportFrom dots m xs → stm_of s ≡ S.import_from s.line.0 dots m xs
stm_of-ImportFrom s dots m xs h = stm_of-is s ∙ ap (λ (f : ℕ → Stm). f s.line.0) (stm_node_of-is s.node) ∙ rw (h, node.outs-ImportFrom)

pub stm_of-Global : (s : WideStmt) (xs : List (List ℕ)) → s.node ≡ node.Global xs → stm_of s ≡ S.global s.line.0 xs
stm_of-Global s xs h = stm_of-is s ∙ ap (λ (f : ℕ → Stm). f s.line.0) (stm_node_of-is s.node) ∙ rw (h, node.outs-Global)

pub stm_of-Nonlocal : (s : WideStmt) (xs : List (List ℕ)) → s.node ≡ node.Nonlocal xs → stm_of s ≡ S.nonlocal s.line.0 xs
stm_of-Nonlocal s xs h = stm_of-is s ∙ ap (λ (f : ℕ → Stm). f s.line.0) (stm_node_of-is s.node) ∙ rw (h, node.outs-Nonlocal)

pub stm_of-If : (s : WideStmt) (bs : List WideBranch) (els : List WideStmt) → s.node ≡ node.If bs els → stm_of s ≡ S.choice s.line.0 (chained S.no_branches (map branch_of bs)) (stms_of els)
stm_of-If s bs els h = stm_of-is s ∙ ap (λ (f : ℕ → Stm). f s.line.0) (stm_node_of-is s.node) ∙ rw (h, node.outs-If)

pub stm_of-While : (s : WideStmt) (c : WideExpr) (body : List WideStmt) (els : List WideStmt) → s.node ≡ node.While c body els → stm_of s ≡ S.while s.line.0 (exp_of c) (stms_of body) (stms_of els)
stm_of-While s c body els h = stm_of-is s ∙ ap (λ (f : ℕ → Stm). f s.line.0) (stm_node_of-is s.node) ∙ rw (h, node.outs-While)

pub stm_of-For : (s : WideStmt) (t : WideExpr) (a : WideExpr) (body : List WideStmt) (els : List WideStmt) → s.node ≡ node.For t a body els → stm_of s ≡ S.for s.line.0 (exp_of t) (exp_of a) (stms_of body) (stms_of els)
stm_of-For s t a body els h = stm_of-is s ∙ ap (λ (f : ℕ → Stm). f s.line.0) (stm_node_of-is s.node) ∙ rw (h, node.outs-For)

pub stm_of-Try : (s : WideStmt) (body : List WideStmt) (hs : List WideHandler) (els : List WideStmt) (fin : List WideStmt) → s.node ≡ node.Try body hs els fin → stm_of s ≡ S.try s.line.0 (stms_of body) (chained S.no_handlers (map handler_of hs)) (stms_of els) (stms_of fin)
stm_of-Try s body hs els fin h = stm_of-is s ∙ ap (λ (f : ℕ → Stm). f s.line.0) (stm_node_of-is s.node) ∙ rw (h, node.outs-Try)

pub stm_of-With : (s : WideStmt) (is : List WideItem) (body : List WideStmt) → s.node ≡ node.With is body → stm_of s ≡ S.with s.line.0 (items_of is) (stms_of body)
stm_of-With s is body h = stm_of-is s ∙ ap (λ (f : ℕ → Stm). f s.line.0) (stm_node_of-is s.node) ∙ rw (h, node.outs-With)

pub stm_of-Def : (s : WideStmt) (ds : List WideDecorator) (dl : Line) (x : List ℕ) (ps : WideParameters) (r : Option WideExpr) (body : List WideStmt) → s.node ≡ node.Def ds dl x ps r body → stm_of s ≡ S.def s.line.0 (decorators_of ds) dl.0 x (parameters_of ps) (opt_exp r) (stms_of body)
stm_of-Def s ds dl x ps r body h = stm_of-is s ∙ ap (λ (f : ℕ → Stm). f s.line.0) (stm_node_of-is s.node) ∙ rw (h, node.outs-Def)

pub stm_of-Class : (s : WideStmt) (ds : List WideDecorator) (cl : Line) (x : List ℕ) (args : List WideArgument) (comma : Bool) (body : List WideStmt) → s.node ≡ node.Class ds cl x args comma body → stm_of s ≡ S.class s.line.0 (decorators_of ds) cl.0 x (chained S.no_args (map argument_of args)) comma (stms_of body)
stm_of-Class s ds cl x args comma body h = stm_of-is s ∙ ap (λ (f : ℕ → Stm). f s.line.0) (stm_node_of-is s.node) ∙ rw (h, node.outs-Class)

pub branch_of-parts : (b : WideBranch) (r : Branches) → branch_of b r ≡ S.branch (out-WideBranch b).line.0 (exp_of (out-WideBranch b).test) (stms_of (out-WideBranch b).body) r
branch_of-parts b r = ap (λ (f : Branches → Branches). f r) (branch_of-is b)

pub handler_of-parts : (h : WideHandler) (r : Handlers) → handler_of h r ≡ S.handler (out-WideHandler h).line.0 (out-WideHandler h).star (opt_exp (out-WideHandler h).class) (out-WideHandler h).name (stms_of (out-WideHandler h).body) r
handler_of-parts h r = ap (λ (f : Handlers → Handlers). f r) (handler_of-is h)

pub ruleset statements = (stm_of-Assign, stm_of-Augmented, stm_of-Annotated, stm_of-Assert, stm_of-Pass, stm_of-Del, stm_of-Return, stm_of-Raise, stm_of-RaiseAgain, stm_of-Break, stm_of-Continue, stm_of-Import, stm_of-ImportFrom, stm_of-Global, stm_of-Nonlocal, stm_of-If, stm_of-While, stm_of-For, stm_of-Try, stm_of-With, stm_of-Def, stm_of-Class, branch_of-parts, handler_of-parts)
