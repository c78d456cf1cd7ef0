-- The plain data of each kind of statement, given that of its parts.
use Rattle.std.proofs.Common.{◌≡◌, ℕ, List, ap, ◌∙◌, map, Option}
use Rattle.pt_base.specs.declared.operators.BinOp.{BinOp}
use Rattle.pt_base.specs.declared.numbers.BlockId.{BlockId}
use Rattle.pt_base.specs.declared.numbers.Line.{Line}
use Rattle.pt_tree.specs.declared.expression.Expr.{Expr}
use Rattle.pt_tree.specs.declared.expression.Target.{Target}
use Rattle.pt_tree.specs.declared.expression.Place.{Place}
use Rattle.pt_tree.specs.declared.expression.Parameters.{Parameters}
use Rattle.pt_tree.specs.declared.statement.Alias.{Alias}
use Rattle.pt_tree.specs.declared.statement.WithItem.{WithItem}
use Rattle.pt_tree.specs.declared.statement.Decorator.{Decorator}
use Rattle.pt_tree.specs.declared.statement.StmtNode.{StmtNode, fold_out-StmtNode, map-StmtNode, out-StmtNode}
use Rattle.pt_tree.specs.declared.statement.Branch.{Branch, fold_out-Branch, map-Branch, out-Branch}
use Rattle.pt_tree.specs.declared.statement.Handler.{Handler, fold_out-Handler, map-Handler, out-Handler}
use Rattle.pt_tree.specs.declared.statement.Stmt.{Stmt, fold_out-Stmt, map-Stmt, out-Stmt}
use Rattle.pt_tree.specs.declared.statement.StmtNode.TheVariants as node
use Rattle.pt_tree.specs.Syntax as S
use Rattle.pt_tree.specs.Syntax.{Stm, Stms, Branches, Handlers}
use Rattle.pt_tree.specs.Fold.{exp_of, opt_exp, target_of, targets_of, place_of, parameters_of, chained}
use Rattle.pt_tree.specs.StatementFold.{StmtNode-P, Branch-P, Handler-P, Stmt-P, statement_plain, branch_plain, handler_plain, statement_at, stm_node_of, branch_of, handler_of, stm_of, decorators_of, items_of, stms_of}

abbrev opened-StmtNode : StmtNode → StmtNode-P
opened-StmtNode x = map-StmtNode StmtNode Branch Handler Stmt (ℕ → Stm) (Branches → Branches) (Handlers → Handlers) Stm stm_node_of branch_of handler_of stm_of (out-StmtNode x)

pub stm_node_of-is : (x : StmtNode) → stm_node_of x ≡ statement_plain (opened-StmtNode x)
unfolding stm_node_of branch_of handler_of stm_of
stm_node_of-is x = fold_out-StmtNode (ℕ → Stm) (Branches → Branches) (Handlers → Handlers) Stm statement_plain branch_plain handler_plain statement_at x

abbrev opened-Branch : Branch → Branch-P
opened-Branch x = map-Branch StmtNode Branch Handler Stmt (ℕ → Stm) (Branches → Branches) (Handlers → Handlers) Stm stm_node_of branch_of handler_of stm_of (out-Branch x)

branch_of-is : (x : Branch) → branch_of x ≡ branch_plain (opened-Branch x)
unfolding stm_node_of branch_of handler_of stm_of
branch_of-is x = fold_out-Branch (ℕ → Stm) (Branches → Branches) (Handlers → Handlers) Stm statement_plain branch_plain handler_plain statement_at x

abbrev opened-Handler : Handler → Handler-P
opened-Handler x = map-Handler StmtNode Branch Handler Stmt (ℕ → Stm) (Branches → Branches) (Handlers → Handlers) Stm stm_node_of branch_of handler_of stm_of (out-Handler x)

handler_of-is : (x : Handler) → handler_of x ≡ handler_plain (opened-Handler x)
unfolding stm_node_of branch_of handler_of stm_of
handler_of-is x = fold_out-Handler (ℕ → Stm) (Branches → Branches) (Handlers → Handlers) Stm statement_plain branch_plain handler_plain statement_at x

abbrev opened-Stmt : Stmt → Stmt-P
opened-Stmt x = map-Stmt StmtNode Branch Handler Stmt (ℕ → Stm) (Branches → Branches) (Handlers → Handlers) Stm stm_node_of branch_of handler_of stm_of (out-Stmt x)

pub stm_of-is : (x : Stmt) → stm_of x ≡ statement_at (opened-Stmt x)
unfolding stm_node_of branch_of handler_of stm_of
stm_of-is x = fold_out-Stmt (ℕ → Stm) (Branches → Branches) (Handlers → Handlers) Stm statement_plain branch_plain handler_plain statement_at x

pub stm_of-Expr : (s : Stmt) (a : Expr) → s.node ≡ node.Expr a → stm_of s ≡ S.expr s.line.0 (exp_of a)
stm_of-Expr s a h = stm_of-is s ∙ ap (λ (f : ℕ → Stm). f s.line.0) (stm_node_of-is s.node) ∙ rw (h, node.outs-Expr)

pub stm_of-Assign : (s : Stmt) (ts : List Target) (a : Expr) → s.node ≡ node.Assign ts a → stm_of s ≡ S.assign s.line.0 (targets_of (map target_of ts)) (exp_of a)
stm_of-Assign s ts a h = stm_of-is s ∙ ap (λ (f : ℕ → Stm). f s.line.0) (stm_node_of-is s.node) ∙ rw (h, node.outs-Assign)

pub stm_of-Augmented : (s : Stmt) (p : Place) (o : BinOp) (a : Expr) → s.node ≡ node.Augmented p o a → stm_of s ≡ S.augmented s.line.0 (place_of p) o (exp_of a)
stm_of-Augmented s p o a h = stm_of-is s ∙ ap (λ (f : ℕ → Stm). f s.line.0) (stm_node_of-is s.node) ∙ rw (h, node.outs-Augmented)

pub stm_of-Annotated : (s : Stmt) (p : Place) (n : Expr) (v : Option Expr) → s.node ≡ node.Annotated p n v → stm_of s ≡ S.annotated s.line.0 (place_of p) (exp_of n) (opt_exp v)
stm_of-Annotated s p n v h = stm_of-is s ∙ ap (λ (f : ℕ → Stm). f s.line.0) (stm_node_of-is s.node) ∙ rw (h, node.outs-Annotated)

pub stm_of-Assert : (s : Stmt) (c : Expr) (m : Option Expr) → s.node ≡ node.Assert c m → stm_of s ≡ S.assert s.line.0 (exp_of c) (opt_exp m)
stm_of-Assert s c m h = stm_of-is s ∙ ap (λ (f : ℕ → Stm). f s.line.0) (stm_node_of-is s.node) ∙ rw (h, node.outs-Assert)

pub stm_of-Pass : (s : Stmt) → s.node ≡ node.Pass → stm_of s ≡ S.pass s.line.0
stm_of-Pass s h = stm_of-is s ∙ ap (λ (f : ℕ → Stm). f s.line.0) (stm_node_of-is s.node) ∙ rw (h, node.outs-Pass)

pub stm_of-Del : (s : Stmt) (ts : List Target) → s.node ≡ node.Del ts → stm_of s ≡ S.del s.line.0 (targets_of (map target_of ts))
stm_of-Del s ts h = stm_of-is s ∙ ap (λ (f : ℕ → Stm). f s.line.0) (stm_node_of-is s.node) ∙ rw (h, node.outs-Del)

pub stm_of-Return : (s : Stmt) (v : Option Expr) → s.node ≡ node.Return v → stm_of s ≡ S.return s.line.0 (opt_exp v)
stm_of-Return s v h = stm_of-is s ∙ ap (λ (f : ℕ → Stm). f s.line.0) (stm_node_of-is s.node) ∙ rw (h, node.outs-Return)

pub stm_of-Raise : (s : Stmt) (a : Expr) (c : Option Expr) → s.node ≡ node.Raise a c → stm_of s ≡ S.raise s.line.0 (exp_of a) (opt_exp c)
stm_of-Raise s a c h = stm_of-is s ∙ ap (λ (f : ℕ → Stm). f s.line.0) (stm_node_of-is s.node) ∙ rw (h, node.outs-Raise)

pub stm_of-RaiseAgain : (s : Stmt) → s.node ≡ node.RaiseAgain → stm_of s ≡ S.raise_again s.line.0
stm_of-RaiseAgain s h = stm_of-is s ∙ ap (λ (f : ℕ → Stm). f s.line.0) (stm_node_of-is s.node) ∙ rw (h, node.outs-RaiseAgain)

pub stm_of-Break : (s : Stmt) → s.node ≡ node.Break → stm_of s ≡ S.break s.line.0
stm_of-Break s h = stm_of-is s ∙ ap (λ (f : ℕ → Stm). f s.line.0) (stm_node_of-is s.node) ∙ rw (h, node.outs-Break)

pub stm_of-Continue : (s : Stmt) → s.node ≡ node.Continue → stm_of s ≡ S.continue s.line.0
stm_of-Continue s h = stm_of-is s ∙ ap (λ (f : ℕ → Stm). f s.line.0) (stm_node_of-is s.node) ∙ rw (h, node.outs-Continue)

pub stm_of-Import : (s : Stmt) (xs : List Alias) → s.node ≡ node.Import xs → stm_of s ≡ S.import s.line.0 xs
stm_of-Import s xs h = stm_of-is s ∙ ap (λ (f : ℕ → Stm). f s.line.0) (stm_node_of-is s.node) ∙ rw (h, node.outs-Import)

pub stm_of-ImportFrom : (s : Stmt) (m : List ℕ) (xs : List Alias) → s.node ≡ node.ImportFrom m xs → stm_of s ≡ S.import_from s.line.0 m xs
stm_of-ImportFrom s m xs h = stm_of-is s ∙ ap (λ (f : ℕ → Stm). f s.line.0) (stm_node_of-is s.node) ∙ rw (h, node.outs-ImportFrom)

pub stm_of-Global : (s : Stmt) (xs : List (List ℕ)) → s.node ≡ node.Global xs → stm_of s ≡ S.global s.line.0 xs
stm_of-Global s xs h = stm_of-is s ∙ ap (λ (f : ℕ → Stm). f s.line.0) (stm_node_of-is s.node) ∙ rw (h, node.outs-Global)

pub stm_of-Nonlocal : (s : Stmt) (xs : List (List ℕ)) → s.node ≡ node.Nonlocal xs → stm_of s ≡ S.nonlocal s.line.0 xs
stm_of-Nonlocal s xs h = stm_of-is s ∙ ap (λ (f : ℕ → Stm). f s.line.0) (stm_node_of-is s.node) ∙ rw (h, node.outs-Nonlocal)

pub stm_of-If : (s : Stmt) (bs : List Branch) (els : List Stmt) → s.node ≡ node.If bs els → stm_of s ≡ S.choice s.line.0 (chained S.no_branches (map branch_of bs)) (stms_of els)
stm_of-If s bs els h = stm_of-is s ∙ ap (λ (f : ℕ → Stm). f s.line.0) (stm_node_of-is s.node) ∙ rw (h, node.outs-If)

pub stm_of-While : (s : Stmt) (c : Expr) (body : List Stmt) (els : List Stmt) → s.node ≡ node.While c body els → stm_of s ≡ S.while s.line.0 (exp_of c) (stms_of body) (stms_of els)
stm_of-While s c body els h = stm_of-is s ∙ ap (λ (f : ℕ → Stm). f s.line.0) (stm_node_of-is s.node) ∙ rw (h, node.outs-While)

pub stm_of-For : (s : Stmt) (t : Target) (a : Expr) (body : List Stmt) (els : List Stmt) → s.node ≡ node.For t a body els → stm_of s ≡ S.for s.line.0 (target_of t) (exp_of a) (stms_of body) (stms_of els)
stm_of-For s t a body els h = stm_of-is s ∙ ap (λ (f : ℕ → Stm). f s.line.0) (stm_node_of-is s.node) ∙ rw (h, node.outs-For)

pub stm_of-Try : (s : Stmt) (body : List Stmt) (hs : List Handler) (els : List Stmt) (fin : List Stmt) → s.node ≡ node.Try body hs els fin → stm_of s ≡ S.try s.line.0 (stms_of body) (chained S.no_handlers (map handler_of hs)) (stms_of els) (stms_of fin)
stm_of-Try s body hs els fin h = stm_of-is s ∙ ap (λ (f : ℕ → Stm). f s.line.0) (stm_node_of-is s.node) ∙ rw (h, node.outs-Try)

pub stm_of-With : (s : Stmt) (is : List WithItem) (body : List Stmt) → s.node ≡ node.With is body → stm_of s ≡ S.with s.line.0 (items_of is) (stms_of body)
stm_of-With s is body h = stm_of-is s ∙ ap (λ (f : ℕ → Stm). f s.line.0) (stm_node_of-is s.node) ∙ rw (h, node.outs-With)

pub stm_of-Def : (s : Stmt) (ds : List Decorator) (dl : Line) (b : BlockId) (x : List ℕ) (ps : Parameters) (r : Option Expr) (body : List Stmt) → s.node ≡ node.Def ds dl b x ps r body → stm_of s ≡ S.def s.line.0 (decorators_of ds) dl.0 b.0 x (parameters_of ps) (opt_exp r) (stms_of body)
stm_of-Def s ds dl b x ps r body h = stm_of-is s ∙ ap (λ (f : ℕ → Stm). f s.line.0) (stm_node_of-is s.node) ∙ rw (h, node.outs-Def)

pub stm_of-Class : (s : Stmt) (ds : List Decorator) (cl : Line) (b : BlockId) (x : List ℕ) (base : Option Expr) (body : List Stmt) → s.node ≡ node.Class ds cl b x base body → stm_of s ≡ S.class s.line.0 (decorators_of ds) cl.0 b.0 x (opt_exp base) (stms_of body)
stm_of-Class s ds cl b x base body h = stm_of-is s ∙ ap (λ (f : ℕ → Stm). f s.line.0) (stm_node_of-is s.node) ∙ rw (h, node.outs-Class)

pub branch_of-parts : (b : Branch) (r : Branches) → branch_of b r ≡ S.branch (out-Branch b).line.0 (exp_of (out-Branch b).test) (stms_of (out-Branch b).body) r
branch_of-parts b r = ap (λ (f : Branches → Branches). f r) (branch_of-is b)

pub handler_of-parts : (h : Handler) (r : Handlers) → handler_of h r ≡ S.handler (out-Handler h).line.0 (opt_exp (out-Handler h).class) (out-Handler h).name (stms_of (out-Handler h).body) r
handler_of-parts h r = ap (λ (f : Handlers → Handlers). f r) (handler_of-is h)

pub ruleset statements = (stm_of-Expr, stm_of-Assign, stm_of-Augmented, stm_of-Annotated, stm_of-Assert, stm_of-Pass, stm_of-Del, stm_of-Return, stm_of-Raise, stm_of-RaiseAgain, stm_of-Break, stm_of-Continue, stm_of-Import, stm_of-ImportFrom, stm_of-Global, stm_of-Nonlocal, stm_of-If, stm_of-While, stm_of-For, stm_of-Try, stm_of-With, stm_of-Def, stm_of-Class, branch_of-parts, handler_of-parts)
