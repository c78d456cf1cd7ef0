-- Statements that are made of their parts.
use Rattle.std.proofs.Common.{◌≡◌, ◌∙◌, ap, sym, refl, subst, ℕ, ◌+◌, ◌≤◌, length, List, [], ◌∷◌, map, Option, None, Some, option_map, Bool, true, false, arith}
use Rattle.std.specs.Prelude.{◌<◌, ◌↔◌, IsTrue, if◌then◌else◌, is_some, slice_get}
use Rattle.pt_base.specs.declared.numbers.Line.{Line}
use Rattle.pt_tree.proofs.StatementFolds.{branch_of-parts, handler_of-parts}
use Rattle.pt_tree.specs.declared.expression.Expr.{Expr}
use Rattle.pt_tree.specs.declared.statement.Branch.{out-roll-Branch, roll-Branch}
use Rattle.pt_tree.specs.declared.statement.Decorator.{Decorator}
use Rattle.pt_tree.specs.declared.statement.Handler.{out-roll-Handler, roll-Handler}
use Rattle.pt_tree.specs.declared.statement.Stmt.{Stmt}
use Rattle.pt_tree.specs.declared.statement.WithItem.{WithItem}
use Rattle.pt_tree.specs.Fold.{chained, exp_of, opt_exp, target_of}
use Rattle.pt_tree.specs.StatementFold.{branch_of, decorators_of, handler_of, items_of, stm_of, stms_of}
use Rattle.pt_tree.specs.Syntax as T
use Rattle.pt_wide.proofs.Folds.{argument_of-Positional}
use Rattle.pt_wide.specs.declared.expression.WideArgument.{WideArgument}
use Rattle.pt_wide.specs.declared.expression.WideArgument.TheVariants as argument
use Rattle.pt_wide.specs.declared.expression.WideExpr.{WideExpr}
use Rattle.pt_wide.specs.Fold as V
use Rattle.pt_wide.specs.Syntax as W
use Rattle.pt_refine_expr.specs.Blocks.{blocks_all}
use Rattle.pt_refine_expr.specs.Narrow.{narrow_exp}
use Rattle.pt_refine_expr.specs.Narrowed.{Made, wide_args, wide_exps}
use Rattle.pt_refine_expr.specs.StatementBlocks.{blocks_stm}
use Rattle.pt_refine_expr.specs.StatementNarrow.{narrow_assigned, narrow_base, narrow_stm, only_base}
use Rattle.pt_refine_expr.specs.StatementFaults.{is_base}
use Rattle.pt_refine_expr.specs.Ways.{both, three, four}
use Rattle.pt_refine_expr.proofs.OtherStatements.{is_base-many}

pub at-made-stm : (q : W.Stm → Option T.Stm) {t : T.Stm} {n m : ℕ} {s d : W.Stm} → s ≡ d → Made (q d) t n (blocks_stm d) m → Made (q s) t n (blocks_stm s) m
at-made-stm q {t} {n} {m} is h = subst (λ x. Made (q x) t n (blocks_stm x) m) (sym is) h

-- an assignment has a target
pub assign-is : (n l : ℕ) (ts : W.Exps) (e : W.Exp) → (ts ≡ W.no_exps → ⊥) → narrow_stm n (W.assign l ts e) ≡ both (T.assign l) (narrow_assigned n ts) (narrow_exp (n + blocks_all ts) e)
assign-is n l W.no_exps e some = absurd (some refl)
assign-is n l (W.more_exps t ts) e some = refl

pub some-exps : (es : List WideExpr) → (es ≡ [] → ⊥) → wide_exps es ≡ W.no_exps → ⊥
some-exps [] some is = some refl
some-exps (e ∷ es) some is = cc

pub none-before : (a : ℕ) → 0 + a ≡ a
none-before a = omega arith

pub none-behind : (a : ℕ) → a + 0 ≡ a
none-behind a = omega arith

pub is_so : {b : Bool} {P : Type 0} → IsTrue b ↔ P → b ≡ true → P
is_so e h = e.0 h

-- the one argument of a class
pub base-is : (gs : List WideArgument) (g : WideArgument) (e : WideExpr) → Some g ≡ slice_get gs 0 → g ≡ argument.Positional e → length gs ≤ 1 → wide_args gs ≡ W.positional (V.exp_of e) W.no_args
base-is [] g e is kind few = cc
base-is (h ∷ []) g e is kind few = let same : h ≡ g = cc in argument_of-Positional h W.no_args e (same ∙ kind)
base-is (h ∷ k ∷ gs) g e is kind few = absurd (omega arith)

-- lists of the tree, as chains of their parts
abbrev pub put_decorator : Decorator → T.Decorators → T.Decorators
put_decorator d r = T.decorator d.line.0 (exp_of d.value) r

abbrev pub put_item : WithItem → T.Items → T.Items
put_item i r = T.with_item i.line.0 (exp_of i.context) (option_map target_of i.target) r

pub stms-chained : (ss : List Stmt) → chained T.none (map (λ (s : Stmt). T.more (stm_of s)) ss) ≡ stms_of ss
stms-chained [] = refl
stms-chained (s ∷ ss) = ap (T.more (stm_of s)) (stms-chained ss)

pub decorators-chained : (ds : List Decorator) → chained T.no_decorators (map put_decorator ds) ≡ decorators_of ds
decorators-chained [] = refl
decorators-chained (d ∷ ds) = ap (put_decorator d) (decorators-chained ds)

pub items-chained : (is : List WithItem) → chained T.no_items (map put_item is) ≡ items_of is
items-chained [] = refl
items-chained (i ∷ is) = ap (put_item i) (items-chained is)

-- the part in the middle doesn't run
pub made-beside : {A B C P : Type 0} (f : A → B → C → P) (q : ℕ → Option B) (r : ℕ → Option C) {o : Option A} {x : A} {y : B} {z : C} {n k i h l m : ℕ} → Made o x n k i → Made (q i) y i 0 h → Made (r h) z h l m → Made (three f o (q (n + k)) (r (n + k))) (f x y z) n (k + l) m
made-beside f q r {x = x} {y = y} {n = n} {k = k} {i = i} {h = h} a b c = let same : i ≡ h = omega (arith, b.after) in record { is = ap (λ p. three f p (q (n + k)) (r (n + k))) a.is ∙ ap (λ t. both (f x) (q t) (r t)) (sym a.after) ∙ ap (λ p. both (f x) p (r i)) b.is ∙ ap (λ t. option_map (f x y) (r t)) same ∙ ap (option_map (f x y)) c.is; after = omega (arith, a.after, b.after, c.after) }

-- a block starts behind the first part, and its annotation doesn't run
pub made-def : {A B C D P : Type 0} (f : A → B → C → D → P) (q : ℕ → Option B) (r : ℕ → Option C) (s : ℕ → Option D) {o : Option A} {x : A} {y : B} {z : C} {w : D} {n k i g j h u l m : ℕ} → Made o x n k i → g ≡ 1 + i → Made (q g) y g j h → Made (r h) z h 0 u → Made (s u) w u l m → Made (four f o (q (1 + (n + k))) (r (1 + (n + k) + j)) (s (1 + (n + k) + j))) (f x y z w) n (k + 1 + j + l) m
made-def f q r s {x = x} {y = y} {z = z} {n = n} {k = k} {g = g} {j = j} {h = h} {u = u} a is b c d = let begun : 1 + (n + k) ≡ g = omega (arith, a.after, is) in let same : h ≡ u = omega (arith, c.after) in record { is = ap (λ p. four f p (q (1 + (n + k))) (r (1 + (n + k) + j)) (s (1 + (n + k) + j))) a.is ∙ ap (λ t. three (f x) (q t) (r (t + j)) (s (t + j))) begun ∙ ap (λ p. three (f x) p (r (g + j)) (s (g + j))) b.is ∙ ap (λ t. both (f x y) (r t) (s t)) (sym b.after) ∙ ap (λ p. both (f x y) p (s h)) c.is ∙ ap (λ t. option_map (f x y z) (s t)) same ∙ ap (option_map (f x y z)) d.is; after = omega (arith, a.after, is, b.after, c.after, d.after) }

-- a block starts behind the first part
pub made-class : {A B C P : Type 0} (f : A → B → C → P) (q : ℕ → Option B) (r : ℕ → Option C) {o : Option A} {x : A} {y : B} {z : C} {n k i g j h l m : ℕ} → Made o x n k i → g ≡ 1 + i → Made (q g) y g j h → Made (r h) z h l m → Made (three f o (q (1 + (n + k))) (r (1 + (n + k) + j))) (f x y z) n (k + 1 + j + l) m
made-class f q r {x = x} {y = y} {n = n} {k = k} {g = g} {j = j} {h = h} a is b c = let begun : 1 + (n + k) ≡ g = omega (arith, a.after, is) in record { is = ap (λ p. three f p (q (1 + (n + k))) (r (1 + (n + k) + j))) a.is ∙ ap (λ t. both (f x) (q t) (r (t + j))) begun ∙ ap (λ p. both (f x) p (r (g + j))) b.is ∙ ap (λ t. option_map (f x y) (r t)) (sym b.after) ∙ ap (option_map (f x y)) c.is; after = omega (arith, a.after, is, b.after, c.after) }

pub branch-made : (l : Line) (e : Expr) (body : List Stmt) (r : T.Branches) → branch_of (roll-Branch record { line = l; test = e; body = body }) r ≡ T.branch l.0 (exp_of e) (stms_of body) r
branch-made l e body r = branch_of-parts (roll-Branch record { line = l; test = e; body = body }) r ∙ rw out-roll-Branch

pub handler-made : (l : Line) (e : Option Expr) (x : Option (List ℕ)) (body : List Stmt) (r : T.Handlers) → handler_of (roll-Handler record { line = l; class = e; name = x; body = body }) r ≡ T.handler l.0 (opt_exp e) x (stms_of body) r
handler-made l e x body r = handler_of-parts (roll-Handler record { line = l; class = e; name = x; body = body }) r ∙ rw out-roll-Handler

pub not-some : {P : Type 0} (o : Option P) → is_some o ≡ false → o ≡ None
not-some None none = refl
not-some (Some x) none = cc

-- what is no base leaves none
pub base-left : (before : ℕ) (args : W.Args) (comma : Bool) → is_base args comma ≡ false → narrow_base before args comma ≡ None
base-left n args comma wrong = ap (λ (b : Bool). if b then only_base n args else None) wrong

pub many-bases : (gs : List WideArgument) (comma : Bool) → 1 < length gs → is_base (wide_args gs) comma ≡ false
many-bases [] comma many = absurd (omega arith)
many-bases (g ∷ []) comma many = absurd (omega arith)
many-bases (g ∷ h ∷ gs) comma many = is_base-many g h gs comma

pub one-argument : (gs : List WideArgument) (g : WideArgument) → Some g ≡ slice_get gs 0 → length gs ≤ 1 → wide_args gs ≡ V.argument_of g W.no_args
one-argument [] g is few = cc
one-argument (h ∷ []) g is few = let same : h ≡ g = cc in ap (λ (x : WideArgument). V.argument_of x W.no_args) same
one-argument (h ∷ k ∷ gs) g is few = absurd (omega arith)
