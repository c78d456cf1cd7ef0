-- Expressions that begin with an atom, and what is left of them behind it.
use Rattle.std.proofs.Common.{◌≡◌, ◌≢◌, ℕ, zero, suc, ◌≤◌, Bool, true, false, List, [], ◌∷◌, ◌++◌, Some, None, ◌⊎◌, inl, inr, refl, sym, subst, arith}
use Rattle.pt_base.specs.declared.operators.BinOp.TheVariants.{Add, Sub, Mul, Div, FloorDiv, Mod, Pow, BitAnd, BitOr, BitXor, LeftShift, RightShift}
use Rattle.pt_base.specs.declared.operators.UnOp.{UnOp}
use Rattle.pt_wide.specs.declared.expression.WideBinOp.{WideBinOp}
use Rattle.pt_wide.specs.declared.expression.WideBinOp.TheVariants.{Plain, MatMul}
use Rattle.pt_wide.specs.Syntax as S
use Rattle.pt_wide.specs.Syntax.{Exp}
use Rattle.pt_readers.specs.Reading.{next_of}
use Rattle.pt_grammar.specs.declared.sign.Sign.{Sign}
use Rattle.pt_grammar.specs.declared.sign.Sign.TheVariants.{Operator, Comparison, Mark as mark, Word as word}
use Rattle.pt_grammar.specs.declared.sign.Mark.TheVariants.{Open, Close, OpenBracket, CloseBracket, Dot}
use Rattle.pt_grammar.specs.declared.sign.Word.TheVariants.{And, Or, Not, In, Is, If, Else}
use Rattle.pt_grammar.specs.Lexemes.{Lexeme, sign, sign_at}
use Rattle.pt_grammar.specs.Signs.{rank_of, rank_of_sign, rank_of_lexeme, rank_at, unary_of}
use Rattle.pt_grammar.specs.Grammar.{Expr, expr, lambda, Choice, no_choice, choice, alternatives, Disjunction, disjunction, Disjoined, disjoined_end, disjoined_more, Conjunction, conjunction, Conjoined, conjoined_end, conjoined_more, Negation, not_so, comparison, Comparisons, comparisons, Compared, compared_end, compared_more, Comparing, by_sign, is_in, is_not_in, is, Binary, factor, binary, Operated, operated_end, operated_more, Factor, unary, no_unary, Power, power, Raised, not_raised, raised, primary, Trailed, trailed_end, trailed_more, Trailing, attribute, call, item, an_index, alone, unstarred, no_arguments, Atom}
use Rattle.pt_grammar.specs.Nodes.{line_of, Link, compared, conjoined, disjoined, Trailer, by_name, by_index, by_call, trailed_by}
use Rattle.pt_grammar.specs.Parts.{Fits}
use Rattle.pt_grammar.specs.BehindAtom.{OfPower, OfBinary, of_power, of_binary, OfComparisons, OfConjunction, OfDisjunction, OfExpr}
use Rattle.pt_grammar.proofs.Begins.{some_name, some_exp, name_expr, name_disjunction, name_conjunction, name_negation, name_binary, name_factor}
use Rattle.pt_grammar.proofs.Relations.{comparing_rank}
use Rattle.pt_grammar.proofs.Chains.{conjunctions, disjunctions}

-- the node of an operator, of what stands behind a primary, or of a lambda
abbrev pub is_operated : Exp → Bool
is_operated (S.attribute l a x) = true
is_operated (S.item l a i) = true
is_operated (S.call l f args) = true
is_operated (S.unary l o a) = true
is_operated (S.not_of l a) = true
is_operated (S.binary l o a b) = true
is_operated (S.compare l a o b r) = true
is_operated (S.and l a es) = true
is_operated (S.or l a es) = true
is_operated (S.conditional l c a b) = true
is_operated (S.lambda l ps e) = true
is_operated _ = false

-- The next token goes on with an expression, and a node is made of it.
pub record Grown (a : Exp) (ts : List Lexeme) (e : Exp) : Type 0 where
  pub goes : rank_at (next_of ts) ≤ 11
  pub node : is_operated e ≡ true
  pub shrinks : (d : ℕ) → Fits d e → Fits d a

-- It is all of it, or goes on.
abbrev pub Step : Exp → List Lexeme → Exp → List Lexeme → Type 0
Step a ts e rest = ((e ≡ a) × (rest ≡ ts)) ⊎ Grown a ts e

step_on : {a b e : Exp} {ts mid rest : List Lexeme} → Step a ts b mid → Step b mid e rest → Step a ts e rest
step_on {a} {b} {e} {ts} {mid} {rest} (inl h) s = subst (λ u. Step u ts e rest) h.0 (subst (λ v. Step b v e rest) h.1 s)
step_on {a} {b} {e} {ts} (inr g) (inl h) = inr (subst (λ u. Grown a ts u) (sym h.0) g)
step_on (inr g) (inr j) = inr record { goes = g.goes; node = j.node; shrinks = λ d f. g.shrinks d (j.shrinks d f) }

-- a node stays one
pub node_step : {a e : Exp} {ts rest : List Lexeme} → is_operated a ≡ true → Step a ts e rest → is_operated e ≡ true
node_step n (inl h) = subst (λ u. is_operated u ≡ true) (sym h.0) n
node_step n (inr g) = g.node

trailing_rank : {s : Sign} {ts rest : List Lexeme} {t : Trailer} → Trailing s ts t rest → rank_of_sign s ≡ 0
trailing_rank attribute = refl
trailing_rank (call k) = refl
trailing_rank (item k) = refl

trailed_node : (a : Exp) (t : Trailer) → is_operated (trailed_by a t) ≡ true
trailed_node a (by_name x) = refl
trailed_node a (by_index i) = refl
trailed_node a (by_call args) = refl

trailed_shrinks : (d : ℕ) (a : Exp) (t : Trailer) → Fits d (trailed_by a t) → Fits d a
trailed_shrinks d a (by_name x) f = (omega (arith, f.0), omega (arith, f.1))
trailed_shrinks d a (by_index i) f = (omega (arith, f.0), omega (arith, f.1))
trailed_shrinks d a (by_call args) f = (omega (arith, f.0), omega (arith, f.1))

trailed_step : {a e : Exp} {ts rest : List Lexeme} → Trailed a ts e rest → Step a ts e rest
trailed_step trailed_end = inl (refl, refl)
trailed_step {a} (trailed_more {t = t} q k) =
    step_on (inr record { goes = omega (arith, trailing_rank q); node = trailed_node a t; shrinks = λ d f. trailed_shrinks d a t f }) (trailed_step k)

raised_step : {a e : Exp} {ts rest : List Lexeme} → Raised a ts e rest → Step a ts e rest
raised_step not_raised = inl (refl, refl)
raised_step (raised k) = inr record { goes = omega arith; node = refl; shrinks = λ d f. (omega (arith, f.0), omega (arith, f.1)) }

operated_step : {n : ℕ} {a e : Exp} {ts rest : List Lexeme} → n ≤ 5 → Operated n a ts e rest → Step a ts e rest
operated_step h operated_end = inl (refl, refl)
operated_step h (operated_more r q k) =
    step_on (inr record { goes = omega (arith, r, h); node = refl; shrinks = λ d f. (omega (arith, f.0), omega (arith, f.1)) }) (operated_step h k)

snoc_some : {A : Type 0} (xs : List A) (x : A) → xs ++ (x ∷ []) ≢ []
snoc_some [] x h = cc
snoc_some (y ∷ xs) x h = cc

compared_some : (a : Exp) (cs : List Link) → cs ≢ [] → is_operated (compared a cs) ≡ true
compared_some a [] n = absurd (n refl)
compared_some a (c ∷ cs) n = refl

compared_node : {a e : Exp} {cs : List Link} {ts rest : List Lexeme} → cs ≢ [] → Compared a cs ts e rest → is_operated e ≡ true
compared_node {a} {cs = cs} n compared_end = compared_some a cs n
compared_node {cs = cs} n (compared_more {c = c} q k) = compared_node (snoc_some cs c) k

compared_fits : (d : ℕ) (a : Exp) (cs : List Link) → Fits d (compared a cs) → Fits d a
compared_fits d a [] f = f
compared_fits d a (c ∷ cs) f = (omega (arith, f.0), omega (arith, f.1))

compared_shrinks : (d : ℕ) {a e : Exp} (cs : List Link) {ts rest : List Lexeme} → Compared a cs ts e rest → Fits d e → Fits d a
compared_shrinks d {a} cs compared_end f = compared_fits d a cs f
compared_shrinks d cs (compared_more {c = c} q k) f = compared_shrinks d (cs ++ (c ∷ [])) k f

compared_step : {a e : Exp} {ts rest : List Lexeme} → Compared a [] ts e rest → Step a ts e rest
compared_step compared_end = inl (refl, refl)
compared_step (compared_more {c = c} q k) = inr record { goes = omega (arith, comparing_rank q); node = compared_node (snoc_some [] c) k; shrinks = λ d f. compared_shrinks d (c ∷ []) k f }

conjoined_some : (a : Exp) (es : List Exp) → es ≢ [] → is_operated (conjoined a es) ≡ true
conjoined_some a [] n = absurd (n refl)
conjoined_some a (e ∷ es) n = refl

conjoined_node : {a e : Exp} {es : List Exp} {ts rest : List Lexeme} → es ≢ [] → Conjoined a es ts e rest → is_operated e ≡ true
conjoined_node {a} {es = es} n conjoined_end = conjoined_some a es n
conjoined_node {es = es} n (conjoined_more {b = b} q k) = conjoined_node (snoc_some es b) k

conjoined_step : {a e : Exp} {ts rest : List Lexeme} → Conjoined a [] ts e rest → Step a ts e rest
conjoined_step conjoined_end = inl (refl, refl)
conjoined_step {a} (conjoined_more {l = l} {b = b} q k) =
    inr record { goes = omega arith; node = conjoined_node (snoc_some [] b) k; shrinks = λ d f. (conjunctions d a).shrinks [] _ _ _ (conjoined_more {l = l} q k) f }

disjoined_some : (a : Exp) (es : List Exp) → es ≢ [] → is_operated (disjoined a es) ≡ true
disjoined_some a [] n = absurd (n refl)
disjoined_some a (e ∷ es) n = refl

disjoined_node : {a e : Exp} {es : List Exp} {ts rest : List Lexeme} → es ≢ [] → Disjoined a es ts e rest → is_operated e ≡ true
disjoined_node {a} {es = es} n disjoined_end = disjoined_some a es n
disjoined_node {es = es} n (disjoined_more {b = b} q k) = disjoined_node (snoc_some es b) k

disjoined_step : {a e : Exp} {ts rest : List Lexeme} → Disjoined a [] ts e rest → Step a ts e rest
disjoined_step disjoined_end = inl (refl, refl)
disjoined_step {a} (disjoined_more {l = l} {b = b} q k) =
    inr record { goes = omega arith; node = disjoined_node (snoc_some [] b) k; shrinks = λ d f. (disjunctions d a).shrinks [] _ _ _ (disjoined_more {l = l} q k) f }

choice_step : {a e : Exp} {ts rest : List Lexeme} → Choice a ts e rest → Step a ts e rest
choice_step no_choice = inl (refl, refl)
choice_step (choice (alternatives c b)) = inr record { goes = omega arith; node = refl; shrinks = λ d f. (omega (arith, f.0), omega (arith, f.1)) }

of_power_step : {a e : Exp} {ts rest : List Lexeme} → OfPower a ts e rest → Step a ts e rest
of_power_step k = step_on (trailed_step k.2) (raised_step k.3)

of_binary_step : {n : ℕ} {a e : Exp} {ts rest : List Lexeme} → n ≤ 6 → OfBinary n a ts e rest → Step a ts e rest
of_binary_step h (of_power k) = of_power_step k
of_binary_step h (of_binary q o) = step_on (of_binary_step (omega (arith, h)) q) (operated_step (omega (arith, h)) o)

of_comparisons_step : {a e : Exp} {ts rest : List Lexeme} → OfComparisons a ts e rest → Step a ts e rest
of_comparisons_step k = step_on (of_binary_step (omega arith) k.2) (compared_step k.3)

of_conjunction_step : {a e : Exp} {ts rest : List Lexeme} → OfConjunction a ts e rest → Step a ts e rest
of_conjunction_step k = step_on (of_comparisons_step k.2) (conjoined_step k.3)

of_disjunction_step : {a e : Exp} {ts rest : List Lexeme} → OfDisjunction a ts e rest → Step a ts e rest
of_disjunction_step k = step_on (of_conjunction_step k.2) (disjoined_step k.3)

pub of_expr_step : {a e : Exp} {ts rest : List Lexeme} → OfExpr a ts e rest → Step a ts e rest
of_expr_step k = step_on (of_disjunction_step k.2) (choice_step k.3)

-- It begins with an atom, or with no parenthesis.
abbrev pub Heads : (Exp → List Lexeme → Exp → List Lexeme → Type 0) → List Lexeme → Exp → List Lexeme → Type 0
Heads Of ts e rest = ((a : Exp) × (mid : List Lexeme) × Atom ts a mid × Of a mid e rest) ⊎ ((is_operated e ≡ true) × (sign_at (next_of ts) ≢ Some (mark Open)))

power_heads : {ts rest : List Lexeme} {e : Exp} → Power ts e rest → Heads OfPower ts e rest
power_heads (power (primary a k) r) = inl (_, _, a, (_, _, k, r))

no_open : {s : Sign} {o : UnOp} → unary_of s ≡ Some o → Some s ≢ Some (mark Open)
no_open {s} {o} h e = let k : s ≡ mark Open = cc in let g : None ≡ Some o = subst (λ u. unary_of u ≡ Some o) k h in cc

factor_heads : {ts rest : List Lexeme} {e : Exp} → Factor ts e rest → Heads OfPower ts e rest
factor_heads (unary h k) = inr (refl, no_open h)
factor_heads (no_unary k) = power_heads k

binary_heads : {n : ℕ} {ts rest : List Lexeme} {e : Exp} → n ≤ 6 → Binary n ts e rest → Heads (OfBinary n) ts e rest
binary_heads {n} {ts} {rest} {e} h (factor k) = led (factor_heads k)
  where
    led : Heads OfPower ts e rest → Heads (OfBinary zero) ts e rest
    led (inl (a, mid, x, j)) = inl (a, mid, x, of_power j)
    led (inr g) = inr g
binary_heads {n} {ts} {rest} {e} h (binary {n = m} {mid = us} {a = b} q o) = led (binary_heads (omega (arith, h)) q)
  where
    led : Heads (OfBinary m) ts b us → Heads (OfBinary (suc m)) ts e rest
    led (inl (a, mid, x, j)) = inl (a, mid, x, of_binary j o)
    led (inr g) = inr (node_step g.0 (operated_step (omega (arith, h)) o), g.1)

-- what is read behind what begins so
led_on : (Of Off : Exp → List Lexeme → Exp → List Lexeme → Type 0) {ts mid rest : List Lexeme} {b e : Exp} → Step b mid e rest
    → ((a : Exp) (us : List Lexeme) → Of a us b mid → Off a us e rest) → Heads Of ts b mid → Heads Off ts e rest
led_on Of Off s on (inl (a, us, x, j)) = inl (a, us, x, on a us j)
led_on Of Off s on (inr g) = inr (node_step g.0 s, g.1)

comparisons_heads : {ts rest : List Lexeme} {e : Exp} → Comparisons ts e rest → Heads OfComparisons ts e rest
comparisons_heads (comparisons q k) = led_on (OfBinary 6) OfComparisons (compared_step k) (λ a us j. (_, _, j, k)) (binary_heads (omega arith) q)

negation_heads : {ts rest : List Lexeme} {e : Exp} → Negation ts e rest → Heads OfComparisons ts e rest
negation_heads (not_so k) = inr (refl, λ h. cc)
negation_heads (comparison k) = comparisons_heads k

conjunction_heads : {ts rest : List Lexeme} {e : Exp} → Conjunction ts e rest → Heads OfConjunction ts e rest
conjunction_heads (conjunction q k) = led_on OfComparisons OfConjunction (conjoined_step k) (λ a us j. (_, _, j, k)) (negation_heads q)

disjunction_heads : {ts rest : List Lexeme} {e : Exp} → Disjunction ts e rest → Heads OfDisjunction ts e rest
disjunction_heads (disjunction q k) = led_on OfConjunction OfDisjunction (disjoined_step k) (λ a us j. (_, _, j, k)) (conjunction_heads q)

pub expr_heads : {ts rest : List Lexeme} {e : Exp} → Expr ts e rest → Heads OfExpr ts e rest
expr_heads (expr q k) = led_on OfDisjunction OfExpr (choice_step k) (λ a us j. (_, _, j, k)) (disjunction_heads q)
expr_heads (lambda p k) = inr (refl, λ h. cc)

-- an atom, and what is left behind it, is an expression
binary_from : {n : ℕ} {ts mid rest : List Lexeme} {a e : Exp} → Atom ts a mid → OfBinary n a mid e rest → Binary n ts e rest
binary_from x (of_power k) = factor (no_unary (power (primary x k.2) k.3))
binary_from x (of_binary k o) = binary (binary_from x k) o

pub expr_from : {ts mid rest : List Lexeme} {a e : Exp} → Atom ts a mid → OfExpr a mid e rest → Expr ts e rest
expr_from x (d, ds, (c, cs, (b, bs, (y, ys, o, k), j), i), h) = expr (disjunction (conjunction (comparison (comparisons (binary_from x o) k)) j) i) h

-- nothing is left
raise : {n : ℕ} {a e : Exp} {ts rest : List Lexeme} → OfBinary n a ts e rest → OfBinary (suc n) a ts e rest
raise k = of_binary k operated_end

number_only : {a e : Exp} {ts rest : List Lexeme} → OfPower a ts e rest → OfBinary 6 a ts e rest
number_only k = raise (raise (raise (raise (raise (raise (of_power k))))))

compared_only : {a e : Exp} {ts rest : List Lexeme} → OfComparisons a ts e rest → OfExpr a ts e rest
compared_only k = (_, _, (_, _, (_, _, k, conjoined_end), disjoined_end), no_choice)

binary_only : {a e : Exp} {ts rest : List Lexeme} → OfBinary 6 a ts e rest → OfExpr a ts e rest
binary_only k = compared_only (_, _, k, compared_end)

power_only : {a e : Exp} {ts rest : List Lexeme} → OfPower a ts e rest → OfExpr a ts e rest
power_only k = binary_only (number_only k)

no_power : {a : Exp} {ts : List Lexeme} → OfPower a ts a ts
no_power = (_, _, trailed_end, not_raised)

pub of_expr_nothing : {a : Exp} {ts : List Lexeme} → OfExpr a ts a ts
of_expr_nothing = power_only no_power

-- Where a token goes on with an expression, something does.
abbrev Far : Exp → Lexeme → Type 0
Far a t = (w : List Lexeme) × (e : Exp) × ((z : List Lexeme) → OfExpr a (t ∷ (w ++ z)) e z)

operated_by : {n l : ℕ} {o : WideBinOp} {a : Exp} {z : List Lexeme} → rank_of o ≡ suc (suc n) → OfBinary n a (sign l (Operator o) ∷ (some_name ∷ z)) a (sign l (Operator o) ∷ (some_name ∷ z))
    → OfBinary (suc n) a (sign l (Operator o) ∷ (some_name ∷ z)) (S.binary (line_of a) o a some_exp) z
operated_by {n} r k = of_binary k (operated_more r (name_binary n) operated_end)

compared_by : {a : Exp} {l : ℕ} {s : Sign} {c : Link} {ts rest : List Lexeme} → Comparing s ts c rest → OfExpr a (sign l s ∷ ts) (compared a (c ∷ [])) rest
compared_by q = compared_only (_, _, number_only no_power, compared_more q compared_end)

none : {a : Exp} {ts : List Lexeme} → OfBinary zero a ts a ts
none = of_power no_power

operator_far : (a : Exp) (l : ℕ) (o : WideBinOp) → Far a (sign l (Operator o))
operator_far a l (Plain Pow) = (some_name ∷ [], _, λ z. power_only (_, _, trailed_end, raised name_factor))
operator_far a l (Plain Mul) = (some_name ∷ [], _, λ z. binary_only (raise (raise (raise (raise (raise (operated_by refl none)))))))
operator_far a l (Plain Div) = (some_name ∷ [], _, λ z. binary_only (raise (raise (raise (raise (raise (operated_by refl none)))))))
operator_far a l (Plain FloorDiv) = (some_name ∷ [], _, λ z. binary_only (raise (raise (raise (raise (raise (operated_by refl none)))))))
operator_far a l (Plain Mod) = (some_name ∷ [], _, λ z. binary_only (raise (raise (raise (raise (raise (operated_by refl none)))))))
operator_far a l MatMul = (some_name ∷ [], _, λ z. binary_only (raise (raise (raise (raise (raise (operated_by refl none)))))))
operator_far a l (Plain Add) = (some_name ∷ [], _, λ z. binary_only (raise (raise (raise (raise (operated_by refl (raise none)))))))
operator_far a l (Plain Sub) = (some_name ∷ [], _, λ z. binary_only (raise (raise (raise (raise (operated_by refl (raise none)))))))
operator_far a l (Plain LeftShift) = (some_name ∷ [], _, λ z. binary_only (raise (raise (raise (operated_by refl (raise (raise none)))))))
operator_far a l (Plain RightShift) = (some_name ∷ [], _, λ z. binary_only (raise (raise (raise (operated_by refl (raise (raise none)))))))
operator_far a l (Plain BitAnd) = (some_name ∷ [], _, λ z. binary_only (raise (raise (operated_by refl (raise (raise (raise none)))))))
operator_far a l (Plain BitXor) = (some_name ∷ [], _, λ z. binary_only (raise (operated_by refl (raise (raise (raise (raise none)))))))
operator_far a l (Plain BitOr) = (some_name ∷ [], _, λ z. binary_only (operated_by refl (raise (raise (raise (raise (raise none)))))))

sign_far : (a : Exp) (l : ℕ) (s : Sign) → rank_of_sign s ≤ 11 → Far a (sign l s)
sign_far a l (mark Dot) h = (some_name ∷ [], _, λ z. power_only (_, _, trailed_more attribute trailed_end, not_raised))
sign_far a l (mark Open) h = (sign 0 (mark Close) ∷ [], _, λ z. power_only (_, _, trailed_more (call no_arguments) trailed_end, not_raised))
sign_far a l (mark OpenBracket) h =
    (some_name ∷ (sign 0 (mark CloseBracket) ∷ []), _, λ z. power_only (_, _, trailed_more (item (an_index (alone (unstarred name_expr)))) trailed_end, not_raised))
sign_far a l (Operator o) h = operator_far a l o
sign_far a l (Comparison o) h = (some_name ∷ [], _, λ z. compared_by (by_sign (name_binary 6)))
sign_far a l (word In) h = (some_name ∷ [], _, λ z. compared_by (is_in (name_binary 6)))
sign_far a l (word Is) h = (some_name ∷ [], _, λ z. compared_by (is (name_binary 6)))
sign_far a l (word Not) h = (sign 0 (word In) ∷ (some_name ∷ []), _, λ z. compared_by (is_not_in (name_binary 6)))
sign_far a l (word And) h = (some_name ∷ [], _, λ z. (_, _, (_, _, (_, _, (_, _, number_only no_power, compared_end), conjoined_more name_negation conjoined_end), disjoined_end), no_choice))
sign_far a l (word Or) h = (some_name ∷ [], _, λ z. (_, _, (_, _, (_, _, (_, _, number_only no_power, compared_end), conjoined_end), disjoined_more name_conjunction disjoined_end), no_choice))
sign_far a l (word If) h =
    (some_name ∷ (sign 0 (word Else) ∷ (some_name ∷ [])), _, λ z. (_, _, (_, _, (_, _, (_, _, number_only no_power, compared_end), conjoined_end), disjoined_end), choice (alternatives name_disjunction name_expr)))
sign_far a l _ h = absurd (small h)
  where
    small : 12 ≤ 11 → ⊥
    small g = omega (arith, g)

pub of_expr_far : (a : Exp) (t : Lexeme) → rank_of_lexeme t ≤ 11 → Far a t
of_expr_far a (sign l s) h = sign_far a l s h
of_expr_far a _ h = absurd (small h)
  where
    small : 12 ≤ 11 → ⊥
    small g = omega (arith, g)
