-- Parts that are made one behind the other, and a list of them.
use Rattle.std.proofs.Common.{◌≡◌, ◌∙◌, ap, sym, refl, subst, ℕ, ◌+◌, ◌<◌, ◌≤◌, get_or, length, drop, List, [], ◌∷◌, ◌++◌, map, Option, None, Some, option_map, Result, Ok, Err, Bool, true, false, arith}
use Rattle.std.specs.Prelude.{◌↔◌, if◌then◌else◌, IsErrAnd, IsTrue}
use Rattle.std.proofs.lemmas.List.{drop_all, drop_more}
use Rattle.pt_base.specs.declared.numbers.Line.{Line}
use Rattle.pt_tree.specs.declared.expression.Clause.{Clause, out-Clause, out-roll-Clause, roll-Clause}
use Rattle.pt_tree.specs.declared.expression.Expr.{Expr}
use Rattle.pt_tree.specs.declared.expression.NamedParameter.{NamedParameter}
use Rattle.pt_tree.specs.declared.expression.Parameter.{Parameter, out-roll-Parameter, roll-Parameter}
use Rattle.pt_tree.specs.declared.expression.Parameters.{out-roll-Parameters, roll-Parameters}
use Rattle.pt_tree.specs.declared.expression.Target.{Target}
use Rattle.pt_tree.proofs.Folds.{clause_of-parts, formal_of-parts, parameters_of-parts}
use Rattle.pt_tree.specs.Fold.{ClauseOf, all_of, chained, clause_of, clauses_of, conditions_of, exp_of, formal_of, opt_exp, parameters_of, target_of, targets_of}
use Rattle.pt_tree.specs.Syntax as T
use Rattle.pt_wide.specs.declared.expression.Comprehension.TheVariants as form
use Rattle.pt_wide.specs.declared.expression.WideExpr.{WideExpr}
use Rattle.pt_wide.specs.Fold as V
use Rattle.pt_wide.specs.Syntax as W
use Rattle.pt_refine_expr.specs.declared.stars.Stars.{Stars}
use Rattle.pt_refine_expr.specs.declared.stars.Stars.TheVariants.{Never, Inside, Here}
use Rattle.pt_refine_expr.specs.declared.unnarrowed.Unnarrowed.{Unnarrowed}
use Rattle.pt_refine_expr.specs.Blocks.{blocks_entry, blocks_exp, blocks_params, blocks_pieces}
use Rattle.pt_refine_expr.specs.Narrow.{Pair, clause, comprehension, conditions, generator, narrow_bare, narrow_exp, narrow_pair, narrow_params, narrow_pieces, narrow_target}
use Rattle.pt_refine_expr.specs.Narrowed.{Left, Made, Makes, MakesBare, MakesExp, MakesBareTarget, Put, Puts, formals_of, narrow_bare_target, put_clause}
use Rattle.pt_refine_expr.specs.Targets.{alone, exp_line, is_inside_target}
use Rattle.pt_refine_expr.specs.Ways.{both, three, four}
use Rattle.pt_refine_expr.proofs.Others.{line-is}

pub made-is : {P : Type 0} {o p : Option P} {x y : P} {n k j m : ℕ} → p ≡ o → y ≡ x → j ≡ k → Made o x n k m → Made p y n j m
made-is p_is y_is j_is h = record { is = p_is ∙ h.is ∙ ap Some (sym y_is); after = omega (arith, h.after, j_is) }

pub made-none : {P : Type 0} {x : P} {n m : ℕ} → m ≡ n → Made (Some x) x n 0 m
made-none is = record { is = refl; after = omega (arith, is) }

pub made-one : {A P : Type 0} (f : A → P) {o : Option A} {x : A} {n k m : ℕ} → Made o x n k m → Made (option_map f o) (f x) n k m
made-one f h = record { is = ap (option_map f) h.is; after = h.after }

pub made-two : {A B P : Type 0} (f : A → B → P) (q : ℕ → Option B) {o : Option A} {x : A} {y : B} {n k i j m : ℕ} → Made o x n k i → Made (q i) y i j m → Made (both f o (q (n + k))) (f x y) n (k + j) m
made-two f q {o} {x} {y} {n} {k} {i} {j} {m} a b = record { is = ap (λ p. both f p (q (n + k))) a.is ∙ ap (λ t. option_map (f x) (q t)) (sym a.after) ∙ ap (option_map (f x)) b.is; after = omega (arith, a.after, b.after) }

pub made-three : {A B C P : Type 0} (f : A → B → C → P) (q : ℕ → Option B) (r : ℕ → Option C) {o : Option A} {x : A} {y : B} {z : C} {n k i j h l m : ℕ} → Made o x n k i → Made (q i) y i j h → Made (r h) z h l m → Made (three f o (q (n + k)) (r (n + k + j))) (f x y z) n (k + j + l) m
made-three f q r {o} {x} {y} {z} {n} {k} {i} {j} {h} {l} {m} a b c = record { is = ap (λ p. three f p (q (n + k)) (r (n + k + j))) a.is ∙ ap (λ t. both (f x) (q t) (r (t + j))) (sym a.after) ∙ ap (λ p. both (f x) p (r (i + j))) b.is ∙ ap (λ t. option_map (f x y) (r t)) (sym b.after) ∙ ap (option_map (f x y)) c.is; after = omega (arith, a.after, b.after, c.after) }

pub made-four : {A B C D P : Type 0} (f : A → B → C → D → P) (q : ℕ → Option B) (r : ℕ → Option C) (s : ℕ → Option D) {o : Option A} {x : A} {y : B} {z : C} {w : D} {n k i j h l g u m : ℕ} → Made o x n k i → Made (q i) y i j h → Made (r h) z h l g → Made (s g) w g u m → Made (four f o (q (n + k)) (r (n + k + j)) (s (n + k + j + l))) (f x y z w) n (k + j + l + u) m
made-four f q r s {o} {x} {y} {z} {w} {n} {k} {i} {j} {h} {l} {g} {u} {m} a b c d = record { is = ap (λ p. four f p (q (n + k)) (r (n + k + j)) (s (n + k + j + l))) a.is ∙ ap (λ t. three (f x) (q t) (r (t + j)) (s (t + j + l))) (sym a.after) ∙ (made-three (f x) r s b c d).is; after = omega (arith, a.after, b.after, c.after, d.after) }

-- of a list so many have been made, and these are before what is left
pub record Walk {A P : Type 0} (put : A → P → P) (made : List A) (whole rest : Option P) (before count now left : ℕ) : Type 0 where
  pub is : whole ≡ option_map (λ r. chained r (map put made)) rest
  pub after : before + count ≡ now + left

option-same : {P : Type 0} (o : Option P) → o ≡ option_map (λ r. r) o
option-same None = refl
option-same (Some x) = refl

pub walk-start : {A P : Type 0} (put : A → P → P) (whole : Option P) (n k : ℕ) → Walk put [] whole whole n k n k
walk-start put whole n k = record { is = option-same whole; after = refl }

chained-behind : {A P : Type 0} (put : A → P → P) (made : List A) (a : A) (r : P) → chained (put a r) (map put made) ≡ chained r (map put (made ++ a ∷ []))
chained-behind put [] a r = refl
chained-behind put (b ∷ made) a r = ap (put b) (chained-behind put made a r)

step-is : {A P : Type 0} (put : A → P → P) (made : List A) (a : A) (o : Option P) → option_map (λ r. chained r (map put made)) (option_map (put a) o) ≡ option_map (λ r. chained r (map put (made ++ a ∷ []))) o
step-is put made a None = refl
step-is put made a (Some r) = ap Some (chained-behind put made a r)

pub walk-step : {A P : Type 0} {put : A → P → P} {made next : List A} (a : A) {whole rest left_over : Option P} {n k m l i j : ℕ} → Walk put made whole rest n k m l → next ≡ made ++ a ∷ [] → rest ≡ option_map (put a) left_over → m + l ≡ i + j → Walk put next whole left_over n k i j
walk-step {put = put} {made = made} {next = next} a {left_over = left_over} w next_is rest_is after = record { is = w.is ∙ ap (option_map (λ r. chained r (map put made))) rest_is ∙ step-is put made a left_over ∙ ap (λ (as' : List _). option_map (λ r. chained r (map put as')) left_over) (sym next_is); after = w.after ∙ after }

pub walk-end : {A P : Type 0} {put : A → P → P} {made : List A} {whole rest : Option P} {n k m l : ℕ} (end : P) → Walk put made whole rest n k m l → rest ≡ Some end → l ≡ 0 → Made whole (chained end (map put made)) n k m
walk-end {put = put} {made = made} end w rest_is none = record { is = w.is ∙ ap (option_map (λ r. chained r (map put made))) rest_is; after = omega (arith, w.after, none) }

pub both-is : {A B P : Type 0} (f : A → B → P) (q : ℕ → Option B) {o : Option A} {x : A} {n k i : ℕ} → Made o x n k i → both f o (q (n + k)) ≡ option_map (f x) (q i)
both-is f q {x = x} {n = n} {k = k} a = ap (λ p. both f p (q (n + k))) a.is ∙ ap (λ t. option_map (f x) (q t)) (sym a.after)

pub put-both : {A R P : Type 0} (f : A → P → P) (q : ℕ → R → Option P) (l : R → ℕ) {o : Option A} {x : A} {n k i : ℕ} → Made o x n k i → Put (f x) (λ r. both f o (q (n + k) r)) (q i) n (λ r. k + l r) i l
put-both f q l a = record { is = λ r. both-is f (λ m. q m r) a; after = λ r. omega (arith, a.after) }

pub option-same-at : {A P : Type 0} (f g : A → P) → ((x : A) → f x ≡ g x) → (o : Option A) → option_map f o ≡ option_map g o
option-same-at f g is None = refl
option-same-at f g is (Some x) = ap Some (is x)

pub put-is : {R P : Type 0} {f g : P → P} {o p q : R → Option P} {n m : ℕ} {k j l : R → ℕ} → ((r : R) → p r ≡ o r) → ((x : P) → g x ≡ f x) → ((r : R) → j r ≡ k r) → Put f o q n k m l → Put g p q n j m l
put-is {f = f} {g = g} {q = q} p_is g_is j_is h = record { is = λ r. p_is r ∙ h.is r ∙ sym (option-same-at g f g_is (q r)); after = λ r. omega (arith, h.after r, j_is r) }

pub made-behind : {R P : Type 0} {f : P → P} {o q : R → Option P} {n i m : ℕ} {k l : R → ℕ} (r : R) {y : P} → Put f o q n k i l → Made (q r) y i (l r) m → Made (o r) (f y) n (k r) m
made-behind {f = f} r h b = record { is = h.is r ∙ ap (option_map f) b.is; after = omega (arith, h.after r, b.after) }

pub made-start : {P : Type 0} (o : ℕ → Option P) {x : P} {n i k m : ℕ} → i ≡ 1 + n → Made (o i) x i k m → Made (o (1 + n)) x n (1 + k) m
made-start o is h = record { is = ap o (sym is) ∙ h.is; after = omega (arith, is, h.after) }

pub made-comprehension : (line : ℕ) (q : ℕ → Option T.Clauses) (c : Clause) (r : T.Clauses) {o : Option T.Made} {x : T.Made} {n k i j m : ℕ} → Made o x n k i → Made (q i) (put_clause c r) i j m → Made (comprehension line o (q (n + k))) (T.comprehension line x (clause_of c).line (clause_of c).target (clause_of c).iterable (conditions_of (clause_of c).conditions r)) n (k + j) m
made-comprehension line q c r {x = x} {n = n} {k = k} a b = record { is = ap (λ p. comprehension line p (q (n + k))) a.is ∙ ap (λ t. comprehension line (Some x) (q t)) (sym a.after) ∙ ap (comprehension line (Some x)) b.is; after = omega (arith, a.after, b.after) }

pub made-generator : (line block : ℕ) (q : ℕ → Option T.Clauses) (c : Clause) (r : T.Clauses) {o : Option T.Exp} {x : T.Exp} {n k i j m : ℕ} → Made o x n k i → Made (q i) (put_clause c r) i j m → Made (generator line block o (q (n + k))) (T.generator line block x (clause_of c).line (clause_of c).target (clause_of c).iterable (conditions_of (clause_of c).conditions r)) n (k + j) m
made-generator line block q c r {x = x} {n = n} {k = k} a b = record { is = ap (λ p. generator line block p (q (n + k))) a.is ∙ ap (λ t. generator line block (Some x) (q t)) (sym a.after) ∙ ap (generator line block (Some x)) b.is; after = omega (arith, a.after, b.after) }

pub three-is : {A B C P : Type 0} (f : A → B → C → P) (q : ℕ → Option B) (r : ℕ → Option C) {o : Option A} {x : A} {y : B} {n k i j h : ℕ} → Made o x n k i → Made (q i) y i j h → three f o (q (n + k)) (r (n + k + j)) ≡ option_map (f x y) (r h)
three-is f q r {x = x} {n = n} {k = k} {j = j} a b = ap (λ p. three f p (q (n + k)) (r (n + k + j))) a.is ∙ ap (λ t. both (f x) (q t) (r (t + j))) (sym a.after) ∙ both-is (f x) r b

pub put-three : {A B R P : Type 0} (f : A → B → P → P) (q : ℕ → Option B) (r : ℕ → R → Option P) (l : R → ℕ) {o : Option A} {x : A} {y : B} {n k i j h : ℕ} → Made o x n k i → Made (q i) y i j h → Put (f x y) (λ s. three f o (q (n + k)) (r (n + k + j) s)) (r h) n (λ s. k + j + l s) h l
put-three f q r l a b = record { is = λ s. three-is f q (λ m. r m s) a b; after = λ s. omega (arith, a.after, b.after) }

pub put-four : {A B C R P : Type 0} (f : A → B → C → P → P) (q : ℕ → Option B) (r : ℕ → Option C) (t : ℕ → R → Option P) (l : R → ℕ) {o : Option A} {x : A} {y : B} {z : C} {n k i j h u g : ℕ} → Made o x n k i → Made (q i) y i j h → Made (r h) z h u g → Put (f x y z) (λ s. four f o (q (n + k)) (r (n + k + j)) (t (n + k + j + u) s)) (t g) n (λ s. k + j + u + l s) g l
put-four f q r t l {x = x} {n = n} {k = k} {j = j} {u = u} a b c = record { is = λ s. ap (λ p. four f p (q (n + k)) (r (n + k + j)) (t (n + k + j + u) s)) a.is ∙ ap (λ v. three (f x) (q v) (r (v + j)) (t (v + j + u) s)) (sym a.after) ∙ three-is (f x) r (λ m. t m s) b c; after = λ s. omega (arith, a.after, b.after, c.after) }

-- what has no blocks of its own, since it doesn't run
pub made-back : {P : Type 0} {o : Option P} {x : P} {n k m i : ℕ} → Made o x n k m → i ≡ n → Made o x n 0 i
made-back h is = record { is = h.is; after = omega (arith, is) }

pub put-beside : {A B R P : Type 0} (f : A → B → P → P) (q : ℕ → Option B) (r : ℕ → R → Option P) (l : R → ℕ) {o : Option A} {x : A} {y : B} {n i j h : ℕ} → Made o x n 0 i → Made (q i) y i j h → Put (f x y) (λ s. three f o (q n) (r (n + j) s)) (r h) n (λ s. j + l s) h l
put-beside f q r l {x = x} {n = n} {i = i} {j = j} a b = let same : n ≡ i = omega (arith, a.after) in record { is = λ s. ap (λ p. three f p (q n) (r (n + j) s)) a.is ∙ ap (λ v. both (f x) (q v) (r (v + j) s)) same ∙ both-is (f x) (λ m. r m s) b; after = λ s. omega (arith, a.after, b.after) }

-- a walk begins at the whole list
pub walk-begin : {A P : Type 0} {put : A → P → P} {made : List A} {whole rest : Option P} {n k m l : ℕ} → made ≡ [] → whole ≡ rest → m ≡ n → l ≡ k → Walk put made whole rest n k m l
walk-begin {put = put} {rest = rest} made_is whole_is m_is l_is = record { is = whole_is ∙ option-same rest ∙ ap (λ (ms : List _). option_map (λ r. chained r (map put ms)) rest) (sym made_is); after = omega (arith, m_is, l_is) }

pub no-form : (a b : ℕ) → 0 + a + b ≡ a + b
no-form a b = omega arith

pub one-form : (a b : ℕ) → 1 + a + b ≡ 1 + (a + b)
one-form a b = omega arith

-- lists of the tree, as chains of their parts
pub exps-chained : (es : List Expr) → chained T.no_exps (map (λ (e : Expr). T.more_exps (exp_of e)) es) ≡ all_of (map exp_of es)
exps-chained [] = refl
exps-chained (e ∷ es) = ap (T.more_exps (exp_of e)) (exps-chained es)

pub targets-chained : (ts : List Target) → chained T.no_targets (map (λ (t : Target). T.more_targets (target_of t)) ts) ≡ targets_of (map target_of ts)
targets-chained [] = refl
targets-chained (t ∷ ts) = ap (T.more_targets (target_of t)) (targets-chained ts)

pub clauses-chained : (cs : List Clause) → chained T.no_clauses (map put_clause cs) ≡ clauses_of (map clause_of cs)
clauses-chained [] = refl
clauses-chained (c ∷ cs) = ap (put_clause c) (clauses-chained cs)

pub conditions-are : (es : List T.Exp) (r : T.Clauses) → conditions (all_of es) r ≡ conditions_of es r
conditions-are [] r = refl
conditions-are (e ∷ es) r = ap (T.only_if e) (conditions-are es r)

pub put-clause-is : (c : Clause) (r : T.Clauses) → put_clause c r ≡ clause (out-Clause c).line.0 (target_of (out-Clause c).target) (exp_of (out-Clause c).iterable) (all_of (map exp_of (out-Clause c).conditions)) r
put-clause-is c r = ap (λ (k : ClauseOf). T.for_each k.line k.target k.iterable (conditions_of k.conditions r)) (clause_of-parts c) ∙ ap (T.for_each (out-Clause c).line.0 (target_of (out-Clause c).target) (exp_of (out-Clause c).iterable)) (sym (conditions-are (map exp_of (out-Clause c).conditions) r))

pub clause-made : (l : Line) (t : Target) (it : Expr) (cs : List Expr) (r : T.Clauses) → put_clause (roll-Clause record { line = l; target = t; iterable = it; conditions = cs }) r ≡ clause l.0 (target_of t) (exp_of it) (all_of (map exp_of cs)) r
clause-made l t it cs r = put-clause-is (roll-Clause record { line = l; target = t; iterable = it; conditions = cs }) r ∙ rw out-roll-Clause

pub formal-made : (l : Line) (x : List ℕ) (a d : Option Expr) (r : T.Formals) → formal_of (roll-Parameter record { line = l; name = x; annotation = a; default = d }) r ≡ T.formal l.0 x (opt_exp a) (opt_exp d) r
formal-made l x a d r = formal_of-parts (roll-Parameter record { line = l; name = x; annotation = a; default = d }) r ∙ rw out-roll-Parameter

pub parameters-made : (ps : List Parameter) (s : Option NamedParameter) (ks : List Parameter) (d : Option NamedParameter) → parameters_of (roll-Parameters record { positional = ps; star = s; keyword_only = ks; double_star = d }) ≡ T.parameters (formals_of ps) s (formals_of ks) d
parameters-made ps s ks d = parameters_of-parts (roll-Parameters record { positional = ps; star = s; keyword_only = ks; double_star = d }) ∙ rw out-roll-Parameters

pub put-literal : (l : ℕ) (text : List ℕ) (n : ℕ) → Put (T.literal l text) (λ r. narrow_pieces n (W.literal l text r)) (narrow_pieces n) n (λ r. blocks_pieces (W.literal l text r)) n blocks_pieces
put-literal l text n = record { is = λ r. refl; after = λ r. refl }

-- parentheses around what stands in a target's place
pub parenthesized-target : (n l : ℕ) (s : Stars) (e : W.Exp) → is_inside_target e ≡ true → narrow_target n s (W.parenthesized l e) ≡ narrow_bare_target l n (alone s) e
parenthesized-target n l Never (W.tuple m es) inside = refl
parenthesized-target n l Inside (W.tuple m es) inside = refl
parenthesized-target n l Here (W.tuple m es) inside = refl
parenthesized-target n l s e inside = ap (λ (b : Bool). if b then narrow_target n (alone s) e else None) inside

-- what starts on its own line
own-bare : (n : ℕ) (e : W.Exp) → narrow_bare (exp_line e) n e ≡ narrow_exp n e
own-bare n (W.comprehension m form.List e cs) = refl
own-bare n (W.comprehension m form.Set e cs) = refl
own-bare n (W.comprehension m form.Generator e cs) = refl
own-bare n e = refl

pub bare-is : (n : ℕ) (e : WideExpr) → narrow_bare e.line.0 n (V.exp_of e) ≡ narrow_exp n (V.exp_of e)
bare-is n e = ap (λ l. narrow_bare l n (V.exp_of e)) (sym (line-is e)) ∙ own-bare n (V.exp_of e)

own-bare-target : (n : ℕ) (s : Stars) (e : W.Exp) → narrow_bare_target (exp_line e) n s e ≡ narrow_target n s e
own-bare-target n s (W.tuple l es) = refl
own-bare-target n s e = refl

pub bare-target-is : (n : ℕ) (s : Stars) (e : WideExpr) → narrow_bare_target e.line.0 n s (V.exp_of e) ≡ narrow_target n s (V.exp_of e)
bare-target-is n s e = ap (λ l. narrow_bare_target l n s (V.exp_of e)) (sym (line-is e)) ∙ own-bare-target n s (V.exp_of e)

-- a node is what its parts make of it
pub same-narrow : {A P : Type 0} (f : A → P) (r : Result A Unnarrowed) (o p : Option P) (n k m : ℕ) → p ≡ o → Makes f r o n k m → Makes f r p n k m
same-narrow f r o p n k m is h = subst (λ q. Makes f r q n k m) (sym is) h

pub at-node : (r : Result Expr Unnarrowed) (line n m : ℕ) (e d : W.Exp) → e ≡ d → MakesBare r line n d m → MakesBare r line n e m
at-node r line n m e d is h = subst (λ x. MakesBare r line n x m) (sym is) h

pub at-exp : (r : Result Expr Unnarrowed) (n m : ℕ) (e d : W.Exp) → e ≡ d → MakesExp r n d m → MakesExp r n e m
at-exp r n m e d is h = subst (λ x. MakesExp r n x m) (sym is) h

pub at-target : (r : Result Target Unnarrowed) (line n : ℕ) (s : Stars) (m : ℕ) (e d : W.Exp) → e ≡ d → MakesBareTarget r line n s d m → MakesBareTarget r line n s e m
at-target r line n s m e d is h = subst (λ x. MakesBareTarget r line n s x m) (sym is) h

pub at-made : {P : Type 0} (q : W.Exp → Option P) {t : P} {n m : ℕ} {e d : W.Exp} → e ≡ d → Made (q d) t n (blocks_exp d) m → Made (q e) t n (blocks_exp e) m
at-made q {t} {n} {m} is h = subst (λ x. Made (q x) t n (blocks_exp x) m) (sym is) h

-- a list from a place on, at which an item stands
pub left-at : {X : Type 0} (xs : List X) (i : ℕ) (x : X) → i < length xs → x ≡ get_or xs i x → drop i xs ≡ x ∷ drop (i + 1) xs
left-at xs i x within is = drop_more xs i x within ∙ ap (λ y. y ∷ drop (i + 1) xs) (sym is)

pub left-none : {X Y : Type 0} (f : List X → Y) (xs : List X) (i : ℕ) → length xs ≤ i → f (drop i xs) ≡ f []
left-none f xs i past = ap f (drop_all i xs past)

pub at-made-entry : {p : Pair} {n m : ℕ} {g d : W.Entry} → g ≡ d → Made (narrow_pair n d) p n (blocks_entry d) m → Made (narrow_pair n g) p n (blocks_entry g) m
at-made-entry {p} {n} {m} is h = subst (λ x. Made (narrow_pair n x) p n (blocks_entry x) m) (sym is) h

pub at-made-params : {p : T.Params} {n m : ℕ} {g d : W.Params} → g ≡ d → Made (narrow_params n d) p n (blocks_params d) m → Made (narrow_params n g) p n (blocks_params g) m
at-made-params {p} {n} {m} is h = subst (λ x. Made (narrow_params n x) p n (blocks_params x) m) (sym is) h

-- what lacks a part behind the first is not in the language
pub both-none : {A B P : Type 0} (f : A → B → P) (o : Option A) → both f o None ≡ None
both-none f None = refl
both-none f (Some x) = refl

pub three-none-second : {A B C P : Type 0} (f : A → B → C → P) (o : Option A) (r : Option C) → three f o None r ≡ None
three-none-second f None r = refl
three-none-second f (Some x) r = refl

pub three-none-third : {A B C P : Type 0} (f : A → B → C → P) (o : Option A) (p : Option B) → three f o p None ≡ None
three-none-third f None p = refl
three-none-third f (Some x) p = both-none (f x) p

pub four-none-second : {A B C D P : Type 0} (f : A → B → C → D → P) (o : Option A) (r : Option C) (s : Option D) → four f o None r s ≡ None
four-none-second f None r s = refl
four-none-second f (Some x) r s = refl

pub four-none-third : {A B C D P : Type 0} (f : A → B → C → D → P) (o : Option A) (p : Option B) (s : Option D) → four f o p None s ≡ None
four-none-third f None p s = refl
four-none-third f (Some x) p s = three-none-second (f x) p s

pub four-none-fourth : {A B C D P : Type 0} (f : A → B → C → D → P) (o : Option A) (p : Option B) (r : Option C) → four f o p r None ≡ None
four-none-fourth f None p r = refl
four-none-fourth f (Some x) p r = three-none-third (f x) p r

pub comprehension-none : (l : ℕ) (o : Option T.Made) → comprehension l o None ≡ None
comprehension-none l None = refl
comprehension-none l (Some m) = refl

pub generator-none : (l b : ℕ) (o : Option T.Exp) → generator l b o None ≡ None
generator-none l b None = refl
generator-none l b (Some e) = refl

-- a `?` at which a part is left out
pub left-out : {A P Q : Type 0} (f : A → P) (r : Result A Unnarrowed) (e : Unnarrowed) (o : Option Q) (p : Option P) (n k m : ℕ) → IsErrAnd r (λ y. y ≡ e) → Left e o → (o ≡ None → p ≡ None) → Makes f r p n k m
left-out f (Ok a) e o p n k m is left whole = absurd is
left-out f (Err x) e o p n k m is left whole = λ out. whole (left (sym is ∙ out))

pub both-second : {A B P : Type 0} (f : A → B → P) (q : ℕ → Option B) (o : Option A) (n i : ℕ) → i ≡ n → q i ≡ None → both f o (q n) ≡ None
both-second f q o n i after none = ap (λ t. both f o (q t)) (sym after) ∙ ap (both f o) none ∙ both-none f o

pub walk-left : {A P : Type 0} {put : A → P → P} {made : List A} {whole rest : Option P} {n k m l : ℕ} → Walk put made whole rest n k m l → rest ≡ None → whole ≡ None
walk-left {put = put} {made = made} w none = w.is ∙ ap (option_map (λ r. chained r (map put made))) none

pub is_not : {b : Bool} {P : Type 0} → IsTrue b ↔ P → b ≡ false → P → ⊥
is_not {b = true} e h p = cc
is_not {b = false} e h p = let k = e.1 p in cc

pub ruleset leaves = (both-none, three-none-second, three-none-third, four-none-second, four-none-third, four-none-fourth, comprehension-none, generator-none)
