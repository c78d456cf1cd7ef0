-- What the reader of statements leans on of the grammar of expressions: which tokens end its parts, and how they can be completed.
use Rattle.std.proofs.Common.{◌≡◌, ◌≢◌, ℕ, ◌<◌, ◌≤◌, List, [], ◌∷◌, ◌++◌, Option, Some, None, Bool, true, false, inl, inr, refl, sym, ◌∙◌, ap, subst, arith}
use Rattle.pt_base.specs.declared.operators.BinOp.TheVariants.{Add, Sub, Mul}
use Rattle.pt_wide.specs.declared.expression.WideBinOp.TheVariants.{Plain}
use Rattle.pt_wide.specs.Syntax as S
use Rattle.pt_wide.specs.Syntax.{Exp, Exps, Opt}
use Rattle.pt_wide.specs.Fold.{all_of}
use Rattle.pt_readers.specs.Reading.{next_of, Part, Within}
use Rattle.pt_grammar.specs.declared.part.Part.{Part as WhichPart}
use Rattle.pt_grammar.specs.declared.part.Part.TheVariants.{Whole, Target}
use Rattle.pt_grammar.specs.declared.sign.Sign.{Sign}
use Rattle.pt_grammar.specs.declared.sign.Sign.TheVariants.{Operator, Augmented, Singleton as singleton, Mark as mark, Word as word, Keyword as keyword, Layout as layout}
use Rattle.pt_grammar.specs.declared.sign.Mark.TheVariants.{Open, Close, OpenBracket, OpenBrace, Comma, Colon, Semicolon, Assign, Arrow, Tilde}
use Rattle.pt_grammar.specs.declared.sign.Word.TheVariants.{From, In, Not, Lambda, Yield}
use Rattle.pt_grammar.specs.declared.sign.Layout.TheVariants.{Newline, FStart}
use Rattle.pt_grammar.specs.Lexemes.{Lexeme, name, int, str, f_text, sign, unknown, sign_at}
use Rattle.pt_grammar.specs.Signs.{rank_of_sign, ends_sign, ends_items}
use Rattle.pt_grammar.specs.Grammar.{MoreItems, no_comma, last_comma, more_items, Item, starred, unstarred, operand, Bare, alone, a_tuple, no_yield, a_yield, yield_none, yield_from, yield_some, exprs, Expr, expr, lambda, no_choice, choice, alternatives, Disjunction, disjunction, Disjoined, disjoined_end, disjoined_more, Conjunction, conjunction, Conjoined, conjoined_end, conjoined_more, Negation, not_so, comparison, Comparisons, comparisons, Compared, compared_end, compared_more, Binary, factor, binary, Operated, operated_end, operated_more, Factor, unary, no_unary, Power, power, not_raised, raised, Primary, primary, Trailed, trailed_end, trailed_more, Atom, a_name, an_int, a_string, an_f_string, a_singleton, in_parentheses, no_tuple, a_generator, no_list, a_list, a_list_comprehension, no_dict, a_dict, a_dict_comprehension, a_set, a_set_comprehension}
use Rattle.pt_grammar.specs.Nodes.{Link, Listed, listed, OnePiece, string_at, Trailer, by_name, by_index, by_call, trailed_by}
use Rattle.pt_grammar.specs.Parts.{Fits, Stops, Apart, ends_in_text}
use Rattle.pt_grammar.proofs.Begins.{some_name, some_exp, fits_name, name_expr, name_binary, BeginsFactor, comparisons_begin}
use Rattle.pt_parser.specs.Forms.{Optional, left_out, written, an_optional}
use Rattle.pt_parser.specs.Simple.{comma, an_expression, a_place, expressions, values, places, several_places}
use Rattle.pt_parser.specs.Targets as T
use Rattle.pt_parser.specs.Targets.{Form, place, tuple, looser, form_of, both, place_form, starred_form, target_form, is_place, is_starred, are_starred, is_target}
use Rattle.pt_parser.proofs.Chains.{Ready, within_all}

-- the signs of statements that end an expression
abbrev pub EndsExpr : Sign → Type 0
EndsExpr (Augmented o) = Unit {0}
EndsExpr (mark Colon) = Unit {0}
EndsExpr (mark Semicolon) = Unit {0}
EndsExpr (mark Assign) = Unit {0}
EndsExpr (mark Close) = Unit {0}
EndsExpr (mark Arrow) = Unit {0}
EndsExpr (keyword k) = Unit {0}
EndsExpr (word From) = Unit {0}
EndsExpr (layout Newline) = Unit {0}
EndsExpr _ = ⊥

abbrev pub Follow : Option Lexeme → Type 0
Follow (Some (sign l s)) = EndsExpr s
Follow _ = ⊥

pub follow_at : {s : Sign} (o : Option Lexeme) → sign_at o ≡ Some s → EndsExpr s → Follow o
follow_at None h f = cc
follow_at {s} (Some (sign l u)) h f = let e : s ≡ u = cc in subst EndsExpr e f
follow_at (Some (name l x)) h f = cc
follow_at (Some (int l n)) h f = cc
follow_at (Some (str l x)) h f = cc
follow_at (Some (f_text l x)) h f = cc
follow_at (Some (unknown l)) h f = cc

ends_rank : (s : Sign) → EndsExpr s → rank_of_sign s ≡ 12
ends_rank (Augmented o) f = refl
ends_rank (mark Colon) f = refl
ends_rank (mark Semicolon) f = refl
ends_rank (mark Assign) f = refl
ends_rank (mark Close) f = refl
ends_rank (mark Arrow) f = refl
ends_rank (keyword k) f = refl
ends_rank (word From) f = refl
ends_rank (layout Newline) f = refl
ends_rank _ f = absurd f

ends_apart : (b : Bool) (l : ℕ) (s : Sign) → EndsExpr s → Apart b (Some (sign l s))
ends_apart false l s f = tt
ends_apart true l (layout Newline) f = tt
ends_apart true l (Augmented o) f = tt
ends_apart true l (mark m) f = tt
ends_apart true l (keyword k) f = tt
ends_apart true l (word w) f = tt
ends_apart true l _ f = absurd f

pub follow_stops : (r : ℕ) (e : Exp) (o : Option Lexeme) → r < 12 → Follow o → Stops r e o
follow_stops r e (Some (sign l s)) h f = (omega (arith, ends_rank s f), ends_apart (ends_in_text e) l s f)
follow_stops r e _ h f = absurd f

pub expr_follow : (e : Exp) (o : Option Lexeme) → Follow o → an_expression.stops e o
expr_follow e o f = follow_stops 11 e o (omega arith) f

-- a sign that ends expressions or targets with commas between them
pub items_at : {s : Sign} (p : WhichPart) (o : Option Lexeme) → sign_at o ≡ Some s → ends_sign p s ≡ true → ends_items p o ≡ true
items_at {s} p (Some (sign l u)) h f = let e : s ≡ u = cc in subst (λ v. ends_sign p v ≡ true) e f
items_at p None h f = cc
items_at p (Some (name l x)) h f = cc
items_at p (Some (int l n)) h f = cc
items_at p (Some (str l x)) h f = cc
items_at p (Some (f_text l x)) h f = cc
items_at p (Some (unknown l)) h f = cc

-- the tokens that begin an expression, or an item with a star
abbrev pub BeginsSign : Sign → Type 0
BeginsSign (Operator (Plain Add)) = Unit {0}
BeginsSign (Operator (Plain Sub)) = Unit {0}
BeginsSign (Operator (Plain Mul)) = Unit {0}
BeginsSign (singleton k) = Unit {0}
BeginsSign (mark Open) = Unit {0}
BeginsSign (mark OpenBracket) = Unit {0}
BeginsSign (mark OpenBrace) = Unit {0}
BeginsSign (mark Tilde) = Unit {0}
BeginsSign (word Not) = Unit {0}
BeginsSign (word Lambda) = Unit {0}
BeginsSign (word Yield) = Unit {0}
BeginsSign (layout FStart) = Unit {0}
BeginsSign _ = ⊥

abbrev pub Begins : Option Lexeme → Type 0
Begins (Some (sign l s)) = BeginsSign s
Begins (Some (f_text l x)) = ⊥
Begins (Some (unknown l)) = ⊥
Begins None = ⊥
Begins _ = Unit {0}

factor_begin : (o : Option Lexeme) → BeginsFactor o → Begins o
factor_begin (Some (name l x)) b = tt
factor_begin (Some (int l n)) b = tt
factor_begin (Some (str l x)) b = tt
factor_begin (Some (sign l (Operator (Plain Add)))) b = tt
factor_begin (Some (sign l (Operator (Plain Sub)))) b = tt
factor_begin (Some (sign l (mark Tilde))) b = tt
factor_begin (Some (sign l (mark Open))) b = tt
factor_begin (Some (sign l (mark OpenBracket))) b = tt
factor_begin (Some (sign l (mark OpenBrace))) b = tt
factor_begin (Some (sign l (layout FStart))) b = tt
factor_begin (Some (sign l (singleton k))) b = tt
factor_begin _ (inl b) = absurd b
factor_begin _ (inr n) = absurd (n refl)

negation_begins : {ts rest : List Lexeme} {e : Exp} → Negation ts e rest → Begins (next_of ts)
negation_begins (not_so q) = tt
negation_begins (comparison q) = factor_begin _ (comparisons_begin q)

conjunction_begins : {ts rest : List Lexeme} {e : Exp} → Conjunction ts e rest → Begins (next_of ts)
conjunction_begins (conjunction q k) = negation_begins q

disjunction_begins : {ts rest : List Lexeme} {e : Exp} → Disjunction ts e rest → Begins (next_of ts)
disjunction_begins (disjunction q k) = conjunction_begins q

pub expr_begins : {ts rest : List Lexeme} {e : Exp} → an_expression.reads ts e rest → Begins (next_of ts)
expr_begins (expr q k) = disjunction_begins q
expr_begins (lambda p q) = tt

item_begins : {ts rest : List Lexeme} {e : Exp} → Item Whole ts e rest → Begins (next_of ts)
item_begins (starred q) = tt
item_begins (unstarred q) = expr_begins q

pub expressions_begins : {ts rest : List Lexeme} {e : Exp} → expressions.reads ts e rest → Begins (next_of ts)
expressions_begins (alone q) = item_begins q
expressions_begins (a_tuple q k) = item_begins q

pub values_begins : {ts rest : List Lexeme} {e : Exp} → values.reads ts e rest → Begins (next_of ts)
values_begins (no_yield q) = expressions_begins q
values_begins (a_yield q) = tt

-- a sign that begins no expression
pub begins_not : {s : Sign} (o : Option Lexeme) → sign_at o ≡ Some s → Begins o → BeginsSign s
begins_not {s} (Some (sign l u)) h b = let e : u ≡ s = cc in subst BeginsSign e b
begins_not None h b = cc
begins_not (Some (name l x)) h b = cc
begins_not (Some (int l n)) h b = cc
begins_not (Some (str l x)) h b = cc
begins_not (Some (f_text l x)) h b = cc
begins_not (Some (unknown l)) h b = cc

comma_apart : (b : Bool) (l : ℕ) → Apart b (Some (sign l comma))
comma_apart false l = tt
comma_apart true l = tt

-- a comma ends an expression
pub expr_comma : (e : Exp) (l : ℕ) → an_expression.stops e (Some (sign l comma))
expr_comma e l = (omega arith, comma_apart (ends_in_text e) l)

-- a name is each of the parts
pub expr_ready : (over : Bool) → Ready an_expression.fits over an_expression.reads
expr_ready over = record { word = some_name ∷ []; done = some_exp; fits = within_all an_expression.fits over some_exp (fits_name 500 (omega arith)); reads = λ z. name_expr }

pub place_ready : (over : Bool) → Ready a_place.fits over a_place.reads
place_ready over = record { word = some_name ∷ []; done = some_exp; fits = within_all a_place.fits over some_exp (fits_name 500 (omega arith)); reads = λ z. name_binary 6 }

pub expressions_ready : (over : Bool) → Ready expressions.fits over expressions.reads
expressions_ready over = record { word = some_name ∷ []; done = some_exp; fits = within_all expressions.fits over some_exp (fits_name 500 (omega arith)); reads = λ z. alone (unstarred name_expr) }

pub values_ready : (over : Bool) → Ready values.fits over values.reads
values_ready over = record { word = some_name ∷ []; done = some_exp; fits = within_all values.fits over some_exp (fits_name 500 (omega arith)); reads = λ z. no_yield (alone (unstarred name_expr)) }

pub places_ready : (over : Bool) → Ready places.fits over places.reads
places_ready over = record { word = some_name ∷ []; done = some_exp; fits = within_all places.fits over some_exp (fits_name 500 (omega arith)); reads = λ z. alone (operand (name_binary 6)) }

pub several_ready : (over : Bool) → Ready several_places.fits over several_places.reads
several_ready over = record { word = some_name ∷ []; done = listed (some_exp ∷ []) false; fits = within_all several_places.fits over (listed (some_exp ∷ []) false) (omega arith, omega arith, omega arith); reads = λ z. exprs (operand (name_binary 6)) no_comma }

pub optional_ready : (s : Sign) (Q : Part Lexeme Exp) (over : Bool) → Ready (an_optional s Q).fits over (an_optional s Q).reads
optional_ready s Q over = record { word = []; done = S.absent; fits = within_all (an_optional s Q).fits over S.absent tt; reads = λ z. left_out }

-- Where what follows ends a part, and the sign of what is optional does so too, the part ends before what is optional.
pub optional_follow : {s : Sign} {Q : List Lexeme → Exp → List Lexeme → Type 0} {ts rest : List Lexeme} {o : Opt} → Optional s Q ts o rest
    → (F : Option Lexeme → Type 0) → F (next_of rest) → ((l : ℕ) → F (Some (sign l s))) → F (next_of ts)
optional_follow left_out F f g = f
optional_follow (written {l = l} e q) F f g = subst (λ u. F (Some (sign l u))) (sym e) (g l)

-- A value is a place, or targets, exactly where its tree says so.
plain_place : {ts rest : List Lexeme} {e : Exp} → a_place.reads ts e rest → an_expression.reads ts e rest
plain_place q = expr (disjunction (conjunction (comparison (comparisons q compared_end)) conjoined_end) disjoined_end) no_choice

pub place_value : {ts rest : List Lexeme} {e : Exp} → a_place.reads ts e rest → values.reads ts e rest
place_value q = no_yield (alone (unstarred (plain_place q)))

no_or : {a x e : Exp} {es : List Exp} {ts rest : List Lexeme} → Disjoined a (x ∷ es) ts e rest → form_of e ≡ looser
no_or disjoined_end = refl
no_or (disjoined_more q k) = no_or k

no_and : {a x e : Exp} {es : List Exp} {ts rest : List Lexeme} → Conjoined a (x ∷ es) ts e rest → form_of e ≡ looser
no_and conjoined_end = refl
no_and (conjoined_more q k) = no_and k

no_comparison : {a e : Exp} {c : Link} {cs : List Link} {ts rest : List Lexeme} → Compared a (c ∷ cs) ts e rest → form_of e ≡ looser
no_comparison compared_end = refl
no_comparison (compared_more q k) = no_comparison k

of_comparisons : {ts rest : List Lexeme} {e : Exp} → Comparisons ts e rest → (form_of e ≡ looser → ⊥) → a_place.reads ts e rest
of_comparisons (comparisons q compared_end) n = q
of_comparisons (comparisons q (compared_more r k)) n = absurd (n (no_comparison k))

of_negation : {ts rest : List Lexeme} {e : Exp} → Negation ts e rest → (form_of e ≡ looser → ⊥) → a_place.reads ts e rest
of_negation (not_so q) n = absurd (n refl)
of_negation (comparison q) n = of_comparisons q n

of_conjunction : {ts rest : List Lexeme} {e : Exp} → Conjunction ts e rest → (form_of e ≡ looser → ⊥) → a_place.reads ts e rest
of_conjunction (conjunction q conjoined_end) n = of_negation q n
of_conjunction (conjunction q (conjoined_more r k)) n = absurd (n (no_and k))

of_disjunction : {ts rest : List Lexeme} {e : Exp} → Disjunction ts e rest → (form_of e ≡ looser → ⊥) → a_place.reads ts e rest
of_disjunction (disjunction q disjoined_end) n = of_conjunction q n
of_disjunction (disjunction q (disjoined_more r k)) n = absurd (n (no_or k))

of_expr : {ts rest : List Lexeme} {e : Exp} → an_expression.reads ts e rest → (form_of e ≡ looser → ⊥) → a_place.reads ts e rest
of_expr (expr q no_choice) n = of_disjunction q n
of_expr (expr q (choice (alternatives r k))) n = absurd (n refl)
of_expr (lambda p q) n = absurd (n refl)

place_not_looser : (f : Form) → place_form f ≡ true → f ≡ looser → ⊥
place_not_looser place h e = cc
place_not_looser T.starred h e = cc
place_not_looser (tuple es) h e = cc
place_not_looser looser h e = cc

starred_not_looser : (f : Form) → starred_form f ≡ true → f ≡ looser → ⊥
starred_not_looser place h e = cc
starred_not_looser T.starred h e = cc
starred_not_looser (tuple es) h e = cc
starred_not_looser looser h e = cc

place_starred : (f : Form) → place_form f ≡ true → starred_form f ≡ true
place_starred place h = refl
place_starred T.starred h = cc
place_starred (tuple es) h = cc
place_starred looser h = cc

starred_target : (f : Form) → starred_form f ≡ true → target_form f ≡ true
starred_target place h = refl
starred_target T.starred h = refl
starred_target (tuple es) h = cc
starred_target looser h = cc

string_place : (l : ℕ) (b : Bool) (ps : List OnePiece) → is_place (string_at l b ps) ≡ true
string_place l true ps = refl
string_place l false ps = refl

atom_place : {ts rest : List Lexeme} {e : Exp} → Atom ts e rest → is_place e ≡ true
atom_place a_name = refl
atom_place an_int = refl
atom_place (a_string {l = l} {q = q} k) = string_place l q.formatted q.pieces
atom_place (an_f_string {l = l} {q = q} f k) = string_place l q.formatted q.pieces
atom_place a_singleton = refl
atom_place (in_parentheses q) = refl
atom_place no_tuple = refl
atom_place (a_generator q k) = refl
atom_place no_list = refl
atom_place (a_list q) = refl
atom_place (a_list_comprehension q k) = refl
atom_place no_dict = refl
atom_place (a_dict q) = refl
atom_place (a_dict_comprehension q k) = refl
atom_place (a_set q) = refl
atom_place (a_set_comprehension q k) = refl

trailer_place : (a : Exp) (t : Trailer) → is_place (trailed_by a t) ≡ true
trailer_place a (by_name x) = refl
trailer_place a (by_index i) = refl
trailer_place a (by_call args) = refl

trailed_place : {a e : Exp} {ts rest : List Lexeme} → Trailed a ts e rest → is_place a ≡ true → is_place e ≡ true
trailed_place trailed_end h = h
trailed_place (trailed_more {a = a} {t = t} q k) h = trailed_place k (trailer_place a t)

primary_place : {ts rest : List Lexeme} {e : Exp} → Primary ts e rest → is_place e ≡ true
primary_place (primary q k) = trailed_place k (atom_place q)

power_place : {ts rest : List Lexeme} {e : Exp} → Power ts e rest → is_place e ≡ true
power_place (power q not_raised) = primary_place q
power_place (power q (raised r)) = refl

factor_place : {ts rest : List Lexeme} {e : Exp} → Factor ts e rest → is_place e ≡ true
factor_place (unary h q) = refl
factor_place (no_unary q) = power_place q

operated_place : {n : ℕ} {a e : Exp} {ts rest : List Lexeme} → Operated n a ts e rest → is_place a ≡ true → is_place e ≡ true
operated_place operated_end h = h
operated_place (operated_more r q k) h = operated_place k refl

binary_place : {n : ℕ} {ts rest : List Lexeme} {e : Exp} → Binary n ts e rest → is_place e ≡ true
binary_place (factor q) = factor_place q
binary_place (binary q k) = operated_place k (binary_place q)

pub place_is : {ts rest : List Lexeme} {e : Exp} → a_place.reads ts e rest → is_place e ≡ true
place_is q = binary_place q

no_truth : {A : Type 0} → false ≡ true → A
no_truth h = cc

pub value_place : {ts rest : List Lexeme} {e : Exp} → values.reads ts e rest → is_place e ≡ true → a_place.reads ts e rest
value_place (no_yield (alone (unstarred {e = e} q))) h = of_expr q (place_not_looser (form_of e) h)
value_place (no_yield (alone (starred q))) h = no_truth h
value_place (no_yield (a_tuple q k)) h = no_truth h
value_place (a_yield yield_none) h = no_truth h
value_place (a_yield (yield_from q)) h = no_truth h
value_place (a_yield (yield_some q)) h = no_truth h

-- items of targets are items, and items are those of targets where their trees say so
both_left : (a b : Bool) → both a b ≡ true → a ≡ true
both_left true b h = refl
both_left false b h = no_truth h

both_right : (a b : Bool) → both a b ≡ true → b ≡ true
both_right true b h = h
both_right false b h = no_truth h

both_true : (a b : Bool) → a ≡ true → b ≡ true → both a b ≡ true
both_true true b h k = k
both_true false b h k = no_truth h

starred_before : (es fs : List Exp) → are_starred (all_of (es ++ fs)) ≡ true → are_starred (all_of es) ≡ true
starred_before [] fs h = refl
starred_before (e ∷ es) fs h = both_true (is_starred e) (are_starred (all_of es)) (both_left (is_starred e) (are_starred (all_of (es ++ fs))) h)
    (starred_before es fs (both_right (is_starred e) (are_starred (all_of (es ++ fs))) h))

starred_last : (es : List Exp) (e : Exp) → are_starred (all_of (es ++ (e ∷ []))) ≡ true → is_starred e ≡ true
starred_last [] e h = both_left (is_starred e) true h
starred_last (x ∷ es) e h = starred_last es e (both_right (is_starred x) (are_starred (all_of (es ++ (e ∷ [])))) h)

starred_snoc : (es : List Exp) (e : Exp) → are_starred (all_of es) ≡ true → is_starred e ≡ true → are_starred (all_of (es ++ (e ∷ []))) ≡ true
starred_snoc [] e h k = both_true (is_starred e) true k refl
starred_snoc (x ∷ es) e h k = both_true (is_starred x) (are_starred (all_of (es ++ (e ∷ [])))) (both_left (is_starred x) (are_starred (all_of es)) h)
    (starred_snoc es e (both_right (is_starred x) (are_starred (all_of es)) h) k)

item_is : {ts rest : List Lexeme} {e : Exp} → Item Target ts e rest → is_starred e ≡ true
item_is (starred q) = refl
item_is (operand {e = e} q) = place_starred (form_of e) (binary_place q)

item_whole : {ts rest : List Lexeme} {e : Exp} → Item Target ts e rest → Item Whole ts e rest
item_whole (starred q) = starred q
item_whole (operand q) = unstarred (plain_place q)

item_target : {ts rest : List Lexeme} {e : Exp} → Item Whole ts e rest → is_starred e ≡ true → Item Target ts e rest
item_target (starred q) h = starred q
item_target (unstarred {e = e} q) h = operand (of_expr q (starred_not_looser (form_of e) h))

more_is : {es : List Exp} {x : Listed} {ts rest : List Lexeme} → MoreItems Target es ts x rest → are_starred (all_of es) ≡ true → are_starred (all_of x.items) ≡ true
more_is no_comma h = h
more_is last_comma h = h
more_is (more_items {es = es} {e = e} q k) h = more_is k (starred_snoc es e h (item_is q))

more_kept : {es : List Exp} {x : Listed} {ts rest : List Lexeme} → MoreItems Whole es ts x rest → are_starred (all_of x.items) ≡ true → are_starred (all_of es) ≡ true
more_kept no_comma h = h
more_kept last_comma h = h
more_kept (more_items {es = es} {e = e} q k) h = starred_before es (e ∷ []) (more_kept k h)

more_whole : {es : List Exp} {x : Listed} {ts rest : List Lexeme} → MoreItems Target es ts x rest → MoreItems Whole es ts x rest
more_whole no_comma = no_comma
more_whole last_comma = last_comma
more_whole (more_items q k) = more_items (item_whole q) (more_whole k)

more_target : {es : List Exp} {x : Listed} {ts rest : List Lexeme} → MoreItems Whole es ts x rest → are_starred (all_of x.items) ≡ true → MoreItems Target es ts x rest
more_target no_comma h = no_comma
more_target last_comma h = last_comma
more_target (more_items {es = es} {e = e} q k) h = more_items (item_target q (starred_last es e (more_kept k h))) (more_target k h)

pub target_value : {ts rest : List Lexeme} {e : Exp} → places.reads ts e rest → values.reads ts e rest
target_value (alone q) = no_yield (alone (item_whole q))
target_value (a_tuple q k) = no_yield (a_tuple (item_whole q) (more_whole k))

target_starred : (f : Form) → f ≡ looser → target_form f ≡ true → ⊥
target_starred f e h = let k : target_form looser ≡ true = subst (λ u. target_form u ≡ true) e h in no_truth k

-- what stands alone is no tuple
alone_starred : {ts rest : List Lexeme} {e : Exp} → Item Whole ts e rest → is_target e ≡ true → Item Target ts e rest
alone_starred (starred q) h = starred q
alone_starred (unstarred {e = e} q) h = operand (of_expr q (λ k. target_starred (form_of e) k h))

pub value_target : {ts rest : List Lexeme} {e : Exp} → values.reads ts e rest → is_target e ≡ true → places.reads ts e rest
value_target (no_yield (alone q)) h = alone (alone_starred q h)
value_target (no_yield (a_tuple {e = e} q k)) h = a_tuple (item_target q (starred_last [] e (more_kept k h))) (more_target k h)
value_target (a_yield yield_none) h = no_truth h
value_target (a_yield (yield_from q)) h = no_truth h
value_target (a_yield (yield_some q)) h = no_truth h

pub target_is : {ts rest : List Lexeme} {e : Exp} → places.reads ts e rest → is_target e ≡ true
target_is (alone {e = e} q) = starred_target (form_of e) (item_is q)
target_is (a_tuple {e = e} q k) = more_is k (starred_snoc [] e refl (item_is q))
