-- What is none of the kinds of statements that a function knows.
use Rattle.std.proofs.Common.{◌≡◌, ◌∙◌, ap, refl, sym, ℕ, Bool, List, Option, None}
use Rattle.pt_base.specs.declared.numbers.Line.{Line}
use Rattle.pt_base.specs.declared.operators.BinOp.{BinOp}
use Rattle.pt_tree.specs.declared.statement.Alias.{Alias}
use Rattle.pt_wide.proofs.StatementFolds.{stm_node_of-is, stm_of-is}
use Rattle.pt_wide.specs.declared.expression.WideArgument.{WideArgument}
use Rattle.pt_wide.specs.declared.expression.WideExpr.{WideExpr}
use Rattle.pt_wide.specs.declared.expression.WideParameters.{WideParameters}
use Rattle.pt_wide.specs.declared.statement.WideBranch.{WideBranch}
use Rattle.pt_wide.specs.declared.statement.WideDecorator.{WideDecorator}
use Rattle.pt_wide.specs.declared.statement.WideHandler.{WideHandler}
use Rattle.pt_wide.specs.declared.statement.WideItem.{WideItem}
use Rattle.pt_wide.specs.declared.statement.WideStmt.{WideStmt}
use Rattle.pt_wide.specs.declared.statement.WideStmtNode.{WideStmtNode, WideStmtNode-F, map-WideStmtNode, out-WideStmtNode, roll-WideStmtNode, roll-out-WideStmtNode}
use Rattle.pt_wide.specs.declared.statement.WideStmtNode.TheOpen as open_node
use Rattle.pt_wide.specs.declared.statement.WideStmtNode.TheVariants as node
use Rattle.pt_wide.specs.Syntax.{Branches, Handlers, Stm}
use Rattle.pt_wide.specs.StatementFold.{branch_of, handler_of, statement_plain, stm_node_of, stm_of}
use Rattle.pt_refine_expr.specs.StatementNarrow.{narrow_stm}
use Rattle.pt_refine.specs.StatementsNarrowed.{narrow_annotated, narrow_assignment, narrow_augmented, narrow_checked, narrow_classed, narrow_defined, narrow_guarded, narrow_iterated, narrow_leaf, narrow_repeated, narrow_simple, narrow_tried}

abbrev Node : Type 0
Node = WideStmtNode-F WideStmtNode WideBranch WideHandler WideStmt

abbrev plain-at : Node → ℕ → Stm
plain-at n l = statement_plain (map-WideStmtNode WideStmtNode WideBranch WideHandler WideStmt (ℕ → Stm) (Branches → Branches) (Handlers → Handlers) Stm stm_node_of branch_of handler_of stm_of n) l

rolled-node : (x : WideStmtNode) (n : Node) (y : WideStmtNode) → out-WideStmtNode x ≡ n → out-WideStmtNode y ≡ n → x ≡ y
rolled-node x n y is outs = sym (roll-out-WideStmtNode x) ∙ ap roll-WideStmtNode (is ∙ sym outs) ∙ roll-out-WideStmtNode y

stm-is : (s : WideStmt) → stm_of s ≡ plain-at (out-WideStmtNode s.node) s.line.0
stm-is s = stm_of-is s ∙ ap (λ (f : ℕ → Stm). f s.line.0) (stm_node_of-is s.node)

abbrev Not-statement : WideStmtNode → Type 0
Not-statement x = ((bs : List WideBranch) (els : List WideStmt) → x ≡ node.If bs els → ⊥)

statement-node : (b : ℕ) (n : Node) (x : WideStmtNode) (l : ℕ) → out-WideStmtNode x ≡ n → Not-statement x → narrow_stm b (plain-at n l) ≡ narrow_repeated b (plain-at n l)
statement-node b (open_node.If bs els) x l is not-If = absurd (not-If bs els (rolled-node x _ (node.If bs els) is (node.outs-If bs els)))
statement-node b n x l is never = refl

pub statement-other : (before : ℕ) (s : WideStmt) → Not-statement s.node → narrow_stm before (stm_of s) ≡ narrow_repeated before (stm_of s)
statement-other b s never = ap (narrow_stm b) (stm-is s) ∙ statement-node b (out-WideStmtNode s.node) s.node s.line.0 refl never ∙ sym (ap (narrow_repeated b) (stm-is s))

abbrev Not-repeated : WideStmtNode → Type 0
Not-repeated x = ((a : WideExpr) (body els : List WideStmt) → x ≡ node.While a body els → ⊥)

repeated-node : (b : ℕ) (n : Node) (x : WideStmtNode) (l : ℕ) → out-WideStmtNode x ≡ n → Not-repeated x → narrow_repeated b (plain-at n l) ≡ narrow_iterated b (plain-at n l)
repeated-node b (open_node.While a body els) x l is not-While = absurd (not-While a body els (rolled-node x _ (node.While a body els) is (node.outs-While a body els)))
repeated-node b n x l is never = refl

pub repeated-other : (before : ℕ) (s : WideStmt) → Not-repeated s.node → narrow_repeated before (stm_of s) ≡ narrow_iterated before (stm_of s)
repeated-other b s never = ap (narrow_repeated b) (stm-is s) ∙ repeated-node b (out-WideStmtNode s.node) s.node s.line.0 refl never ∙ sym (ap (narrow_iterated b) (stm-is s))

abbrev Not-iterated : WideStmtNode → Type 0
Not-iterated x = ((t a : WideExpr) (body els : List WideStmt) → x ≡ node.For t a body els → ⊥)

iterated-node : (b : ℕ) (n : Node) (x : WideStmtNode) (l : ℕ) → out-WideStmtNode x ≡ n → Not-iterated x → narrow_iterated b (plain-at n l) ≡ narrow_tried b (plain-at n l)
iterated-node b (open_node.For t a body els) x l is not-For = absurd (not-For t a body els (rolled-node x _ (node.For t a body els) is (node.outs-For t a body els)))
iterated-node b n x l is never = refl

pub iterated-other : (before : ℕ) (s : WideStmt) → Not-iterated s.node → narrow_iterated before (stm_of s) ≡ narrow_tried before (stm_of s)
iterated-other b s never = ap (narrow_iterated b) (stm-is s) ∙ iterated-node b (out-WideStmtNode s.node) s.node s.line.0 refl never ∙ sym (ap (narrow_tried b) (stm-is s))

abbrev Not-tried : WideStmtNode → Type 0
Not-tried x = ((body : List WideStmt) (hs : List WideHandler) (els fin : List WideStmt) → x ≡ node.Try body hs els fin → ⊥)

tried-node : (b : ℕ) (n : Node) (x : WideStmtNode) (l : ℕ) → out-WideStmtNode x ≡ n → Not-tried x → narrow_tried b (plain-at n l) ≡ narrow_guarded b (plain-at n l)
tried-node b (open_node.Try body hs els fin) x l is not-Try = absurd (not-Try body hs els fin (rolled-node x _ (node.Try body hs els fin) is (node.outs-Try body hs els fin)))
tried-node b n x l is never = refl

pub tried-other : (before : ℕ) (s : WideStmt) → Not-tried s.node → narrow_tried before (stm_of s) ≡ narrow_guarded before (stm_of s)
tried-other b s never = ap (narrow_tried b) (stm-is s) ∙ tried-node b (out-WideStmtNode s.node) s.node s.line.0 refl never ∙ sym (ap (narrow_guarded b) (stm-is s))

abbrev Not-guarded : WideStmtNode → Type 0
Not-guarded x = ((items : List WideItem) (body : List WideStmt) → x ≡ node.With items body → ⊥)

guarded-node : (b : ℕ) (n : Node) (x : WideStmtNode) (l : ℕ) → out-WideStmtNode x ≡ n → Not-guarded x → narrow_guarded b (plain-at n l) ≡ narrow_defined b (plain-at n l)
guarded-node b (open_node.With items body) x l is not-With = absurd (not-With items body (rolled-node x _ (node.With items body) is (node.outs-With items body)))
guarded-node b n x l is never = refl

pub guarded-other : (before : ℕ) (s : WideStmt) → Not-guarded s.node → narrow_guarded before (stm_of s) ≡ narrow_defined before (stm_of s)
guarded-other b s never = ap (narrow_guarded b) (stm-is s) ∙ guarded-node b (out-WideStmtNode s.node) s.node s.line.0 refl never ∙ sym (ap (narrow_defined b) (stm-is s))

abbrev Not-defined : WideStmtNode → Type 0
Not-defined x = ((ds : List WideDecorator) (dl : Line) (y : List ℕ) (ps : WideParameters) (r : Option WideExpr) (body : List WideStmt) → x ≡ node.Def ds dl y ps r body → ⊥)

defined-node : (b : ℕ) (n : Node) (x : WideStmtNode) (l : ℕ) → out-WideStmtNode x ≡ n → Not-defined x → narrow_defined b (plain-at n l) ≡ narrow_classed b (plain-at n l)
defined-node b (open_node.Def ds dl y ps r body) x l is not-Def = absurd (not-Def ds dl y ps r body (rolled-node x _ (node.Def ds dl y ps r body) is (node.outs-Def ds dl y ps r body)))
defined-node b n x l is never = refl

pub defined-other : (before : ℕ) (s : WideStmt) → Not-defined s.node → narrow_defined before (stm_of s) ≡ narrow_classed before (stm_of s)
defined-other b s never = ap (narrow_defined b) (stm-is s) ∙ defined-node b (out-WideStmtNode s.node) s.node s.line.0 refl never ∙ sym (ap (narrow_classed b) (stm-is s))

abbrev Not-classed : WideStmtNode → Type 0
Not-classed x = ((ds : List WideDecorator) (cl : Line) (y : List ℕ) (args : List WideArgument) (comma : Bool) (body : List WideStmt) → x ≡ node.Class ds cl y args comma body → ⊥)

classed-node : (b : ℕ) (n : Node) (x : WideStmtNode) (l : ℕ) → out-WideStmtNode x ≡ n → Not-classed x → narrow_classed b (plain-at n l) ≡ narrow_assignment b (plain-at n l)
classed-node b (open_node.Class ds cl y args comma body) x l is not-Class = absurd (not-Class ds cl y args comma body (rolled-node x _ (node.Class ds cl y args comma body) is (node.outs-Class ds cl y args comma body)))
classed-node b n x l is never = refl

pub classed-other : (before : ℕ) (s : WideStmt) → Not-classed s.node → narrow_classed before (stm_of s) ≡ narrow_assignment before (stm_of s)
classed-other b s never = ap (narrow_classed b) (stm-is s) ∙ classed-node b (out-WideStmtNode s.node) s.node s.line.0 refl never ∙ sym (ap (narrow_assignment b) (stm-is s))

abbrev Not-assignment : WideStmtNode → Type 0
Not-assignment x = ((ts : List WideExpr) (a : WideExpr) → x ≡ node.Assign ts a → ⊥)

assignment-node : (b : ℕ) (n : Node) (x : WideStmtNode) (l : ℕ) → out-WideStmtNode x ≡ n → Not-assignment x → narrow_assignment b (plain-at n l) ≡ narrow_augmented b (plain-at n l)
assignment-node b (open_node.Assign ts a) x l is not-Assign = absurd (not-Assign ts a (rolled-node x _ (node.Assign ts a) is (node.outs-Assign ts a)))
assignment-node b n x l is never = refl

pub assignment-other : (before : ℕ) (s : WideStmt) → Not-assignment s.node → narrow_assignment before (stm_of s) ≡ narrow_augmented before (stm_of s)
assignment-other b s never = ap (narrow_assignment b) (stm-is s) ∙ assignment-node b (out-WideStmtNode s.node) s.node s.line.0 refl never ∙ sym (ap (narrow_augmented b) (stm-is s))

abbrev Not-augmented : WideStmtNode → Type 0
Not-augmented x = ((t : WideExpr) (o : BinOp) (a : WideExpr) → x ≡ node.Augmented t o a → ⊥)

augmented-node : (b : ℕ) (n : Node) (x : WideStmtNode) (l : ℕ) → out-WideStmtNode x ≡ n → Not-augmented x → narrow_augmented b (plain-at n l) ≡ narrow_annotated b (plain-at n l)
augmented-node b (open_node.Augmented t o a) x l is not-Augmented = absurd (not-Augmented t o a (rolled-node x _ (node.Augmented t o a) is (node.outs-Augmented t o a)))
augmented-node b n x l is never = refl

pub augmented-other : (before : ℕ) (s : WideStmt) → Not-augmented s.node → narrow_augmented before (stm_of s) ≡ narrow_annotated before (stm_of s)
augmented-other b s never = ap (narrow_augmented b) (stm-is s) ∙ augmented-node b (out-WideStmtNode s.node) s.node s.line.0 refl never ∙ sym (ap (narrow_annotated b) (stm-is s))

abbrev Not-annotated : WideStmtNode → Type 0
Not-annotated x = ((t a : WideExpr) (v : Option WideExpr) → x ≡ node.Annotated t a v → ⊥)

annotated-node : (b : ℕ) (n : Node) (x : WideStmtNode) (l : ℕ) → out-WideStmtNode x ≡ n → Not-annotated x → narrow_annotated b (plain-at n l) ≡ narrow_checked b (plain-at n l)
annotated-node b (open_node.Annotated t a v) x l is not-Annotated = absurd (not-Annotated t a v (rolled-node x _ (node.Annotated t a v) is (node.outs-Annotated t a v)))
annotated-node b n x l is never = refl

pub annotated-other : (before : ℕ) (s : WideStmt) → Not-annotated s.node → narrow_annotated before (stm_of s) ≡ narrow_checked before (stm_of s)
annotated-other b s never = ap (narrow_annotated b) (stm-is s) ∙ annotated-node b (out-WideStmtNode s.node) s.node s.line.0 refl never ∙ sym (ap (narrow_checked b) (stm-is s))

abbrev Not-checked : WideStmtNode → Type 0
Not-checked x = ((a : WideExpr) (v : Option WideExpr) → x ≡ node.Assert a v → ⊥) × ((a : WideExpr) (v : Option WideExpr) → x ≡ node.Raise a v → ⊥)

checked-node : (b : ℕ) (n : Node) (x : WideStmtNode) (l : ℕ) → out-WideStmtNode x ≡ n → Not-checked x → narrow_checked b (plain-at n l) ≡ narrow_simple b (plain-at n l)
checked-node b (open_node.Assert a v) x l is (not-Assert, not-Raise) = absurd (not-Assert a v (rolled-node x _ (node.Assert a v) is (node.outs-Assert a v)))
checked-node b (open_node.Raise a v) x l is (not-Assert, not-Raise) = absurd (not-Raise a v (rolled-node x _ (node.Raise a v) is (node.outs-Raise a v)))
checked-node b n x l is never = refl

pub checked-other : (before : ℕ) (s : WideStmt) → Not-checked s.node → narrow_checked before (stm_of s) ≡ narrow_simple before (stm_of s)
checked-other b s never = ap (narrow_checked b) (stm-is s) ∙ checked-node b (out-WideStmtNode s.node) s.node s.line.0 refl never ∙ sym (ap (narrow_simple b) (stm-is s))

abbrev Not-simple : WideStmtNode → Type 0
Not-simple x = ((ts : List WideExpr) → x ≡ node.Del ts → ⊥) × ((v : Option WideExpr) → x ≡ node.Return v → ⊥)

simple-node : (b : ℕ) (n : Node) (x : WideStmtNode) (l : ℕ) → out-WideStmtNode x ≡ n → Not-simple x → narrow_simple b (plain-at n l) ≡ narrow_leaf b (plain-at n l)
simple-node b (open_node.Del ts) x l is (not-Del, not-Return) = absurd (not-Del ts (rolled-node x _ (node.Del ts) is (node.outs-Del ts)))
simple-node b (open_node.Return v) x l is (not-Del, not-Return) = absurd (not-Return v (rolled-node x _ (node.Return v) is (node.outs-Return v)))
simple-node b n x l is never = refl

pub simple-other : (before : ℕ) (s : WideStmt) → Not-simple s.node → narrow_simple before (stm_of s) ≡ narrow_leaf before (stm_of s)
simple-other b s never = ap (narrow_simple b) (stm-is s) ∙ simple-node b (out-WideStmtNode s.node) s.node s.line.0 refl never ∙ sym (ap (narrow_leaf b) (stm-is s))

abbrev Not-leaf : WideStmtNode → Type 0
Not-leaf x = (x ≡ node.Pass → ⊥) × (x ≡ node.RaiseAgain → ⊥) × (x ≡ node.Break → ⊥) × (x ≡ node.Continue → ⊥) × ((xs : List Alias) → x ≡ node.Import xs → ⊥) × ((d : ℕ) (y : List ℕ) (xs : Option (List Alias)) → x ≡ node.ImportFrom d y xs → ⊥) × ((ys : List (List ℕ)) → x ≡ node.Global ys → ⊥) × ((ys : List (List ℕ)) → x ≡ node.Nonlocal ys → ⊥)

leaf-node : (b : ℕ) (n : Node) (x : WideStmtNode) (l : ℕ) → out-WideStmtNode x ≡ n → Not-leaf x → narrow_leaf b (plain-at n l) ≡ None
leaf-node b open_node.Pass x l is (not-Pass, not-RaiseAgain, not-Break, not-Continue, not-Import, not-ImportFrom, not-Global, not-Nonlocal) = absurd (not-Pass (rolled-node x _ node.Pass is node.outs-Pass))
leaf-node b open_node.RaiseAgain x l is (not-Pass, not-RaiseAgain, not-Break, not-Continue, not-Import, not-ImportFrom, not-Global, not-Nonlocal) = absurd (not-RaiseAgain (rolled-node x _ node.RaiseAgain is node.outs-RaiseAgain))
leaf-node b open_node.Break x l is (not-Pass, not-RaiseAgain, not-Break, not-Continue, not-Import, not-ImportFrom, not-Global, not-Nonlocal) = absurd (not-Break (rolled-node x _ node.Break is node.outs-Break))
leaf-node b open_node.Continue x l is (not-Pass, not-RaiseAgain, not-Break, not-Continue, not-Import, not-ImportFrom, not-Global, not-Nonlocal) = absurd (not-Continue (rolled-node x _ node.Continue is node.outs-Continue))
leaf-node b (open_node.Import xs) x l is (not-Pass, not-RaiseAgain, not-Break, not-Continue, not-Import, not-ImportFrom, not-Global, not-Nonlocal) = absurd (not-Import xs (rolled-node x _ (node.Import xs) is (node.outs-Import xs)))
leaf-node b (open_node.ImportFrom d y xs) x l is (not-Pass, not-RaiseAgain, not-Break, not-Continue, not-Import, not-ImportFrom, not-Global, not-Nonlocal) = absurd (not-ImportFrom d y xs (rolled-node x _ (node.ImportFrom d y xs) is (node.outs-ImportFrom d y xs)))
leaf-node b (open_node.Global ys) x l is (not-Pass, not-RaiseAgain, not-Break, not-Continue, not-Import, not-ImportFrom, not-Global, not-Nonlocal) = absurd (not-Global ys (rolled-node x _ (node.Global ys) is (node.outs-Global ys)))
leaf-node b (open_node.Nonlocal ys) x l is (not-Pass, not-RaiseAgain, not-Break, not-Continue, not-Import, not-ImportFrom, not-Global, not-Nonlocal) = absurd (not-Nonlocal ys (rolled-node x _ (node.Nonlocal ys) is (node.outs-Nonlocal ys)))
leaf-node b n x l is never = refl

pub leaf-other : (before : ℕ) (s : WideStmt) → Not-leaf s.node → narrow_leaf before (stm_of s) ≡ None
leaf-other b s never = ap (narrow_leaf b) (stm-is s) ∙ leaf-node b (out-WideStmtNode s.node) s.node s.line.0 refl never
