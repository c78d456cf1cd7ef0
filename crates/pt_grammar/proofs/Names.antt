-- Expressions that are a name alone, and how expressions begin.
use Rattle.std.proofs.Common.{◌≡◌, ◌≢◌, ℕ, Bool, true, false, List, [], ◌∷◌, ◌++◌, Option, Some, inl, inr, refl, ◌∙◌, ap}
use Rattle.pt_base.specs.declared.operators.BinOp.TheVariants.{Mul}
use Rattle.pt_wide.specs.declared.expression.WideBinOp.TheVariants.{Plain}
use Rattle.pt_wide.specs.Syntax as S
use Rattle.pt_wide.specs.Syntax.{Exp}
use Rattle.pt_readers.specs.Reading.{next_of}
use Rattle.pt_grammar.specs.declared.part.Part.TheVariants.{Whole}
use Rattle.pt_grammar.specs.declared.sign.Sign.TheVariants.{Operator}
use Rattle.pt_grammar.specs.Lexemes.{Lexeme, name, sign, sign_at}
use Rattle.pt_grammar.specs.Signs.{begins_item}
use Rattle.pt_grammar.specs.Grammar.{Item, starred, unstarred, Expr, expr, lambda, Choice, no_choice, choice, alternatives, Disjunction, disjunction, Disjoined, disjoined_end, disjoined_more, Conjunction, conjunction, Conjoined, conjoined_end, conjoined_more, Negation, not_so, comparison, comparisons, Compared, compared_end, compared_more, Binary, factor, binary, Operated, operated_end, operated_more, Factor, unary, no_unary, power, Raised, not_raised, raised, Primary, primary, Trailed, trailed_end, trailed_more, Atom, a_name, an_int, a_string, an_f_string, a_singleton, in_parentheses, no_tuple, a_generator, no_list, a_list, a_list_comprehension, no_dict, a_dict, a_dict_comprehension, a_set, a_set_comprehension}
use Rattle.pt_grammar.specs.Nodes.{Link, joined, compared, Trailer, by_name, by_index, by_call, trailed_by, OnePiece, string_at}
use Rattle.pt_grammar.specs.CallParts.{begins_expr}
use Rattle.pt_grammar.proofs.Begins.{BeginsExpr, expr_begins}
use Rattle.pt_grammar.proofs.Items.{item_begins, far_item}

-- What is a name alone is that token.
module _ (l : ℕ) (x : List ℕ) where
  string_no_name : (m : ℕ) (b : Bool) (ps : List OnePiece) → string_at m b ps ≡ S.name l x → ⊥
  string_no_name m true ps h = cc
  string_no_name m false ps h = cc

  atom_name : {ts rest : List Lexeme} {e : Exp} → Atom ts e rest → e ≡ S.name l x → ts ≡ name l x ∷ rest
  atom_name {rest = rest} (a_name {l = m} {x = y}) h = let f : m ≡ l = cc in let g : y ≡ x = cc in rw (f, g) refl
  atom_name an_int h = cc
  atom_name (a_string {l = m} {q = q} k) h = absurd (string_no_name m q.formatted q.pieces h)
  atom_name (an_f_string {l = m} {q = q} f k) h = absurd (string_no_name m q.formatted q.pieces h)
  atom_name a_singleton h = cc
  atom_name (in_parentheses k) h = cc
  atom_name no_tuple h = cc
  atom_name (a_generator k c) h = cc
  atom_name no_list h = cc
  atom_name (a_list k) h = cc
  atom_name (a_list_comprehension k c) h = cc
  atom_name no_dict h = cc
  atom_name (a_dict k) h = cc
  atom_name (a_dict_comprehension k c) h = cc
  atom_name (a_set k) h = cc
  atom_name (a_set_comprehension k c) h = cc

  trailer_no_name : (a : Exp) (t : Trailer) → trailed_by a t ≡ S.name l x → ⊥
  trailer_no_name a (by_name y) h = cc
  trailer_no_name a (by_index i) h = cc
  trailer_no_name a (by_call args) h = cc

  trailed_name : {a e : Exp} {ts rest : List Lexeme} → Trailed a ts e rest → e ≡ S.name l x → (a ≡ S.name l x) × (ts ≡ rest)
  trailed_name trailed_end h = (h, refl)
  trailed_name {a} (trailed_more {t = t} q k) h = absurd (trailer_no_name a t (trailed_name k h).0)

  primary_name : {e : Exp} {ts rest : List Lexeme} → Primary ts e rest → e ≡ S.name l x → ts ≡ name l x ∷ rest
  primary_name (primary a t) h = let g = trailed_name t h in atom_name a g.0 ∙ ap (λ us. name l x ∷ us) g.1

  raised_name : {a e : Exp} {ts rest : List Lexeme} → Raised a ts e rest → e ≡ S.name l x → (a ≡ S.name l x) × (ts ≡ rest)
  raised_name not_raised h = (h, refl)
  raised_name (raised k) h = absurd (cc)

  factor_name : {e : Exp} {ts rest : List Lexeme} → Factor ts e rest → e ≡ S.name l x → ts ≡ name l x ∷ rest
  factor_name (unary u k) h = cc
  factor_name (no_unary (power a r)) h = let g = raised_name r h in primary_name a g.0 ∙ ap (λ us. name l x ∷ us) g.1

  operated_name : {n : ℕ} {a e : Exp} {ts rest : List Lexeme} → Operated n a ts e rest → e ≡ S.name l x → (a ≡ S.name l x) × (ts ≡ rest)
  operated_name operated_end h = (h, refl)
  operated_name (operated_more u q k) h = let g = (operated_name k h).0 in absurd (cc)

  binary_name : {n : ℕ} {e : Exp} {ts rest : List Lexeme} → Binary n ts e rest → e ≡ S.name l x → ts ≡ name l x ∷ rest
  binary_name (factor k) h = factor_name k h
  binary_name (binary a k) h = let g = operated_name k h in binary_name a g.0 ∙ ap (λ us. name l x ∷ us) g.1

  no_snoc : {A : Type 0} (es : List A) (e : A) → es ++ (e ∷ []) ≡ [] → ⊥
  no_snoc [] e h = cc
  no_snoc (f ∷ es) e h = cc

  links_name : (a : Exp) (cs : List Link) → compared a cs ≡ S.name l x → (cs ≡ []) × (a ≡ S.name l x)
  links_name a [] h = (refl, h)
  links_name a (c ∷ cs) h = absurd (cc)

  compared_name : {a e : Exp} {cs : List Link} {ts rest : List Lexeme} → Compared a cs ts e rest → e ≡ S.name l x → (cs ≡ []) × (a ≡ S.name l x) × (ts ≡ rest)
  compared_name {a} {cs = cs} compared_end h = let g = links_name a cs h in (g.0, g.1, refl)
  compared_name {cs = cs} (compared_more {c = c} q k) h = absurd (no_snoc cs c (compared_name k h).0)

  negation_name : {e : Exp} {ts rest : List Lexeme} → Negation ts e rest → e ≡ S.name l x → ts ≡ name l x ∷ rest
  negation_name (not_so k) h = cc
  negation_name (comparison (comparisons a k)) h = let g = compared_name k h in binary_name a g.1 ∙ ap (λ us. name l x ∷ us) g.2

  and_name : (a : Exp) (es : List Exp) → joined S.and a es ≡ S.name l x → (es ≡ []) × (a ≡ S.name l x)
  and_name a [] h = (refl, h)
  and_name a (e ∷ es) h = absurd (cc)

  or_name : (a : Exp) (es : List Exp) → joined S.or a es ≡ S.name l x → (es ≡ []) × (a ≡ S.name l x)
  or_name a [] h = (refl, h)
  or_name a (e ∷ es) h = absurd (cc)

  conjoined_name : {a e : Exp} {es : List Exp} {ts rest : List Lexeme} → Conjoined a es ts e rest → e ≡ S.name l x → (es ≡ []) × (a ≡ S.name l x) × (ts ≡ rest)
  conjoined_name {a} {es = es} conjoined_end h = let g = and_name a es h in (g.0, g.1, refl)
  conjoined_name {es = es} (conjoined_more {b = b} q k) h = absurd (no_snoc es b (conjoined_name k h).0)

  disjoined_name : {a e : Exp} {es : List Exp} {ts rest : List Lexeme} → Disjoined a es ts e rest → e ≡ S.name l x → (es ≡ []) × (a ≡ S.name l x) × (ts ≡ rest)
  disjoined_name {a} {es = es} disjoined_end h = let g = or_name a es h in (g.0, g.1, refl)
  disjoined_name {es = es} (disjoined_more {b = b} q k) h = absurd (no_snoc es b (disjoined_name k h).0)

  conjunction_name : {e : Exp} {ts rest : List Lexeme} → Conjunction ts e rest → e ≡ S.name l x → ts ≡ name l x ∷ rest
  conjunction_name (conjunction a k) h = let g = conjoined_name k h in negation_name a g.1 ∙ ap (λ us. name l x ∷ us) g.2

  disjunction_name : {e : Exp} {ts rest : List Lexeme} → Disjunction ts e rest → e ≡ S.name l x → ts ≡ name l x ∷ rest
  disjunction_name (disjunction a k) h = let g = disjoined_name k h in conjunction_name a g.1 ∙ ap (λ us. name l x ∷ us) g.2

  choice_name : {a e : Exp} {ts rest : List Lexeme} → Choice a ts e rest → e ≡ S.name l x → (a ≡ S.name l x) × (ts ≡ rest)
  choice_name no_choice h = (h, refl)
  choice_name (choice (alternatives c b)) h = absurd (cc)

  pub expr_name : {e : Exp} {ts rest : List Lexeme} → Expr ts e rest → e ≡ S.name l x → ts ≡ name l x ∷ rest
  expr_name (expr a k) h = let g = choice_name k h in disjunction_name a g.0 ∙ ap (λ us. name l x ∷ us) g.1
  expr_name (lambda p k) h = cc

  pub name_alone : {z : List Lexeme} → Expr (name l x ∷ z) (S.name l x) z
  name_alone = expr (disjunction (conjunction (comparison (comparisons (six a_name) compared_end)) conjoined_end) disjoined_end) no_choice
    where
      six : {ts z : List Lexeme} {e : Exp} → Atom ts e z → Binary 6 ts e z
      six a = binary (binary (binary (binary (binary (binary (factor (no_unary (power (primary a trailed_end) not_raised))) operated_end) operated_end) operated_end) operated_end) operated_end) operated_end

-- how expressions begin
mul_no_expr : (l : ℕ) → BeginsExpr (Some (sign l (Operator (Plain Mul)))) → ⊥
mul_no_expr l (inl (inl (inl b))) = b
mul_no_expr l (inl (inl (inr n))) = n refl
mul_no_expr l (inl (inr b)) = let h = b.1 in cc
mul_no_expr l (inr b) = let h = b.1 in cc

starts : (o : Option Lexeme) → BeginsExpr o → begins_item Whole o ≡ true → begins_expr o ≡ true
starts (Some (sign l (Operator (Plain Mul)))) b h = absurd (mul_no_expr l b)
starts o b h = h

pub expr_starts : {ts rest : List Lexeme} {e : Exp} → Expr ts e rest → begins_expr (next_of ts) ≡ true
expr_starts {ts = ts} k = starts (next_of ts) (expr_begins k) (item_begins (unstarred k))

begins_both : (o : Option Lexeme) → begins_expr o ≡ true → begins_item Whole o ≡ true
begins_both (Some (sign l (Operator (Plain Mul)))) h = refl
begins_both o h = h

unstar : {t : Lexeme} {ts rest : List Lexeme} {e : Exp} → begins_expr (Some t) ≡ true → Item Whole (t ∷ ts) e rest → Expr (t ∷ ts) e rest
unstar h (starred k) = cc
unstar h (unstarred k) = k

pub far_expr : (t : Lexeme) → begins_expr (Some t) ≡ true → (w : List Lexeme) × (e : Exp) × ((z : List Lexeme) → Expr (t ∷ (w ++ z)) e z)
far_expr t h = let f = far_item Whole t (begins_both (Some t) h) in (f.0, f.1, λ z. unstar h (f.2 z))

-- by the code
pub no_expr_at_star : (o : Option Lexeme) → sign_at o ≡ Some (Operator (Plain Mul)) → false ≡ begins_expr o
no_expr_at_star (Some (sign l (Operator (Plain Mul)))) h = refl
no_expr_at_star o h = absurd (cc)

pub begins_same : (o : Option Lexeme) → sign_at o ≢ Some (Operator (Plain Mul)) → begins_item Whole o ≡ begins_expr o
begins_same (Some (sign l (Operator (Plain Mul)))) n = absurd (n refl)
begins_same o n = refl
