-- Items with commas between them, and displays of lists.
use Rattle.std.proofs.Common.{◌≡◌, ◌≢◌, ℕ, zero, suc, ◌+◌, ◌≤◌, ◌<◌, max, Bool, true, false, List, [], ◌∷◌, ◌++◌, map, length, Option, Some, None, inl, inr, refl, sym, ◌∙◌, ap, subst, arith}
use Rattle.pt_base.specs.declared.operators.BinOp.TheVariants.{Add, Sub, Mul}
use Rattle.pt_base.specs.declared.operators.UnOp.TheVariants.{Plus, Minus, Invert}
use Rattle.pt_wide.specs.declared.expression.WideBinOp.TheVariants.{Plain}
use Rattle.pt_wide.specs.Syntax as S
use Rattle.pt_wide.specs.Syntax.{Exp}
use Rattle.pt_wide.specs.Fold.{all_of}
use Rattle.pt_wide.specs.Measure.{depth_exp, width_exp, depth_all, width_all, count_exps}
use Rattle.pt_readers.specs.Reading.{next_of, Alike, Found, Refused, Carries}
use Rattle.pt_readers.proofs.Readers.{Binds, Shifts, Narrows, Just, left}
use Rattle.pt_readers.proofs.Pieces.{Made, made, made_binds}
use Rattle.pt_grammar.specs.declared.sign.Sign.{Sign}
use Rattle.pt_grammar.specs.declared.sign.Sign.TheVariants.{Operator, Singleton as singleton, Mark as mark, Word as word, Layout as layout}
use Rattle.pt_grammar.specs.declared.sign.Mark.TheVariants.{Open, Close, OpenBracket, CloseBracket, OpenBrace, CloseBrace, Comma, Colon, Tilde}
use Rattle.pt_grammar.specs.declared.sign.Layout.TheVariants.{FStart, FEnd}
use Rattle.pt_grammar.specs.declared.part.Part.{Part as WhichPart}
use Rattle.pt_grammar.specs.declared.part.Part.TheVariants.{Whole, Target}
use Rattle.pt_grammar.specs.declared.sign.Word.TheVariants.{Not, Lambda}
use Rattle.pt_grammar.specs.Lexemes.{Lexeme, name, int, str, sign, sign_at}
use Rattle.pt_grammar.specs.Signs.{begins_sign, begins_item, unary_of, constant_of}
use Rattle.pt_grammar.specs.Grammar.{Exprs, exprs, MoreItems, no_comma, last_comma, more_items, Item, starred, unstarred, operand, Expr, expr, lambda, no_parameter, Choice, no_choice, choice, alternatives, disjunction, Disjoined, disjoined_end, disjoined_more, conjunction, Conjoined, conjoined_end, conjoined_more, Negation, not_so, comparison, comparisons, Compared, compared_end, compared_more, Binary, factor, binary, Operated, operated_end, operated_more, Factor, unary, no_unary, power, Raised, not_raised, raised, primary, Trailed, trailed_end, trailed_more, Atom, a_name, an_int, a_string, an_f_string, a_singleton, in_parentheses, no_tuple, a_generator, no_list, a_list, a_list_comprehension, no_dict, a_dict, a_dict_comprehension, a_set, a_set_comprehension, strings_end, formatted_end}
use Rattle.pt_grammar.specs.Nodes.{joined, compared, Link, Listed, listed, Trailer, by_name, by_index, by_call, trailed_by, OnePiece, text, quoted, string_at, string_of, no_parameters, params_of}
use Rattle.pt_grammar.specs.Parts.{Fits, Stops, Apart, ends_in_text, plain_rank, item_rank, an_item, an_expr, a_bor, last_of, IsComma, StopsItems, FitsItems, some_exprs, max_items}
use Rattle.pt_grammar.proofs.Lists.{Lists, Opens, Out, at_end, at_last, at_item, Behind, Another, first_binds, between_shifts, another_carries, another_binds, last_found, list_found, list_over}
use Rattle.pt_grammar.proofs.Ranks.{IsSign, is_sign, not_signed}
use Rattle.pt_grammar.proofs.Atoms.{apart_mark}
use Rattle.pt_grammar.proofs.Begins.{some_name, some_exp, name_binary, name_factor, name_negation, name_expr, BeginsFactor, BeginsAtom, BeginsExpr, expr_begins, binary_begins}

-- No expression is starred.
string_plain : (l : ℕ) (b : Bool) (ps : List OnePiece) → item_rank Whole (string_at l b ps) ≡ 11
string_plain l true ps = refl
string_plain l false ps = refl

atom_plain : {ts rest : List Lexeme} {e : Exp} → Atom ts e rest → item_rank Whole e ≡ 11
atom_plain a_name = refl
atom_plain an_int = refl
atom_plain (a_string {l = l} {q = q} k) = string_plain l q.formatted q.pieces
atom_plain (an_f_string {l = l} {q = q} f k) = string_plain l q.formatted q.pieces
atom_plain a_singleton = refl
atom_plain (in_parentheses k) = refl
atom_plain no_tuple = refl
atom_plain (a_generator k c) = refl
atom_plain no_list = refl
atom_plain (a_list k) = refl
atom_plain (a_list_comprehension k c) = refl
atom_plain no_dict = refl
atom_plain (a_dict k) = refl
atom_plain (a_dict_comprehension k c) = refl
atom_plain (a_set k) = refl
atom_plain (a_set_comprehension k c) = refl

trailer_plain : (a : Exp) (t : Trailer) → item_rank Whole (trailed_by a t) ≡ 11
trailer_plain a (by_name x) = refl
trailer_plain a (by_index i) = refl
trailer_plain a (by_call args) = refl

trailed_plain : {a e : Exp} {ts rest : List Lexeme} → item_rank Whole a ≡ 11 → Trailed a ts e rest → item_rank Whole e ≡ 11
trailed_plain p trailed_end = p
trailed_plain {a} p (trailed_more {t = t} q k) = trailed_plain (trailer_plain a t) k

raised_plain : {a e : Exp} {ts rest : List Lexeme} → item_rank Whole a ≡ 11 → Raised a ts e rest → item_rank Whole e ≡ 11
raised_plain p not_raised = p
raised_plain p (raised k) = refl

factor_plain : {e : Exp} {ts rest : List Lexeme} → Factor ts e rest → item_rank Whole e ≡ 11
factor_plain (unary h k) = refl
factor_plain (no_unary (power (primary a t) k)) = raised_plain (trailed_plain (atom_plain a) t) k

operated_plain : {n : ℕ} {a e : Exp} {ts rest : List Lexeme} → item_rank Whole a ≡ 11 → Operated n a ts e rest → item_rank Whole e ≡ 11
operated_plain p operated_end = p
operated_plain p (operated_more e q k) = operated_plain refl k

binary_plain : {n : ℕ} {e : Exp} {ts rest : List Lexeme} → Binary n ts e rest → item_rank Whole e ≡ 11
binary_plain (factor k) = factor_plain k
binary_plain (binary q k) = operated_plain (binary_plain q) k

links_plain : (a : Exp) (cs : List Link) → item_rank Whole a ≡ 11 → item_rank Whole (compared a cs) ≡ 11
links_plain a [] p = p
links_plain a (c ∷ cs) p = refl

compared_plain : {a e : Exp} (cs : List Link) {ts rest : List Lexeme} → item_rank Whole a ≡ 11 → Compared a cs ts e rest → item_rank Whole e ≡ 11
compared_plain {a} cs p compared_end = links_plain a cs p
compared_plain cs p (compared_more {c = c} q k) = compared_plain (cs ++ (c ∷ [])) p k

negation_plain : {e : Exp} {ts rest : List Lexeme} → Negation ts e rest → item_rank Whole e ≡ 11
negation_plain (not_so k) = refl
negation_plain (comparison (comparisons q k)) = compared_plain [] (binary_plain q) k

and_plain : (a : Exp) (es : List Exp) → item_rank Whole a ≡ 11 → item_rank Whole (joined S.and a es) ≡ 11
and_plain a [] p = p
and_plain a (e ∷ es) p = refl

or_plain : (a : Exp) (es : List Exp) → item_rank Whole a ≡ 11 → item_rank Whole (joined S.or a es) ≡ 11
or_plain a [] p = p
or_plain a (e ∷ es) p = refl

conjoined_plain : {a e : Exp} (es : List Exp) {ts rest : List Lexeme} → item_rank Whole a ≡ 11 → Conjoined a es ts e rest → item_rank Whole e ≡ 11
conjoined_plain {a} es p conjoined_end = and_plain a es p
conjoined_plain es p (conjoined_more {b = b} q k) = conjoined_plain (es ++ (b ∷ [])) p k

disjoined_plain : {a e : Exp} (es : List Exp) {ts rest : List Lexeme} → item_rank Whole a ≡ 11 → Disjoined a es ts e rest → item_rank Whole e ≡ 11
disjoined_plain {a} es p disjoined_end = or_plain a es p
disjoined_plain es p (disjoined_more {b = b} q k) = disjoined_plain (es ++ (b ∷ [])) p k

choice_plain : {a e : Exp} {ts rest : List Lexeme} → item_rank Whole a ≡ 11 → Choice a ts e rest → item_rank Whole e ≡ 11
choice_plain p no_choice = p
choice_plain p (choice (alternatives c b)) = refl

pub expr_plain : {e : Exp} {ts rest : List Lexeme} → Expr ts e rest → item_rank Whole e ≡ 11
expr_plain (lambda p k) = refl
expr_plain (expr (disjunction (conjunction q k) d) c) = choice_plain (disjoined_plain [] (conjoined_plain [] (negation_plain q) k) d) c

plain_small : (p : WhichPart) → plain_rank p ≤ 11
plain_small Whole = omega arith
plain_small Target = omega arith

pub rank_small : (p : WhichPart) (e : Exp) → item_rank p e ≤ 11
rank_small p (S.starred l e) = omega arith
rank_small p _ = plain_small p

target_rank : (e : Exp) → item_rank Target e ≡ 7
target_rank (S.starred l e) = refl
target_rank _ = refl

-- items
mul_begins_none : (l : ℕ) → BeginsFactor (Some (sign l (Operator (Plain Mul)))) → ⊥
mul_begins_none l (inl b) = b
mul_begins_none l (inr n) = n refl

mul_no_operand : (l : ℕ) {ts rest : List Lexeme} {e : Exp} → Binary 6 (sign l (Operator (Plain Mul)) ∷ ts) e rest → ⊥
mul_no_operand l k = mul_begins_none l (binary_begins k)

pub mul_no_expr : (l : ℕ) {ts rest : List Lexeme} {e : Exp} → Expr (sign l (Operator (Plain Mul)) ∷ ts) e rest → ⊥
mul_no_expr l k = other (expr_begins k)
  where
    other : BeginsExpr (Some (sign l (Operator (Plain Mul)))) → ⊥
    other (inl (inl b)) = mul_begins_none l b
    other (inl (inr b)) = let h = b.1 in cc
    other (inr b) = let h = b.1 in cc

pub starred_shifts : (p : WhichPart) (d l : ℕ) → Shifts (sign l (Operator (Plain Mul))) (left (an_item p d) (Made (a_bor d) (S.starred l))) (an_item p d)
starred_shifts p d l = record { intro = λ ts x rest k. into k; inv = λ ts x rest k n. (out k, n); stop = λ x o n. n; up = λ x f. f; down = λ x f. f }
  where
    into : {ts rest : List Lexeme} {x : Exp} → Made (a_bor d) (S.starred l) ts x rest → Item p (sign l (Operator (Plain Mul)) ∷ ts) x rest
    into (made k) = starred k

    out : {p : WhichPart} {ts rest : List Lexeme} {x : Exp} → Item p (sign l (Operator (Plain Mul)) ∷ ts) x rest → Made (a_bor d) (S.starred l) ts x rest
    out (starred k) = made k
    out (unstarred k) = absurd (mul_no_expr l k)
    out (operand k) = absurd (mul_no_operand l k)

pub starred_binds : (p : WhichPart) (d l : ℕ) → Binds (a_bor d) (λ e. Just (S.starred l e)) (left (an_item p d) (Made (a_bor d) (S.starred l)))
starred_binds p d l = made_binds (an_item p d) (a_bor d) (S.starred l) (λ b o s. s) (λ b f. f) (λ b f. f)

pub expr_narrows : (d : ℕ) (ts : List Lexeme) → sign_at (next_of ts) ≢ Some (Operator (Plain Mul)) → Narrows ts (an_expr d) (an_item Whole d)
expr_narrows d ts n = record {
  into = λ more x rest k. unstarred k;
  out = λ more x rest a k s. outof a k s;
  stop = λ x o s. (omega (arith, s.0, rank_small Whole x), s.1);
  up = λ x f. f;
  down = λ x f. f;
}
  where
    outof : {more rest : List Lexeme} {x : Exp} → Alike more ts → Item Whole more x rest → Stops (item_rank Whole x) x (next_of rest) → Expr more x rest × Stops 11 x (next_of rest)
    outof (inl e) (starred k) s = absurd (n (sym (ap sign_at e)))
    outof (inr e) (starred k) s = cc
    outof a (unstarred k) s = (k, (omega (arith, s.0, expr_plain k), s.1))

pub operand_narrows : (d : ℕ) (ts : List Lexeme) → sign_at (next_of ts) ≢ Some (Operator (Plain Mul)) → Narrows ts (a_bor d) (an_item Target d)
operand_narrows d ts n = record {
  into = λ more x rest k. operand k;
  out = λ more x rest a k s. outof a k s;
  stop = λ x o s. (omega (arith, s.0, target_rank x), s.1);
  up = λ x f. f;
  down = λ x f. f;
}
  where
    outof : {more rest : List Lexeme} {x : Exp} → Alike more ts → Item Target more x rest → Stops (item_rank Target x) x (next_of rest) → Binary 6 more x rest × Stops 7 x (next_of rest)
    outof (inl e) (starred k) s = absurd (n (sym (ap sign_at e)))
    outof (inr e) (starred k) s = cc
    outof {x = x} a (operand k) s = (k, (omega (arith, s.0, target_rank x), s.1))

unary_begins : (p : WhichPart) (s : Sign) → unary_of s ≢ None → begins_sign p s ≡ true
unary_begins p (Operator (Plain Add)) n = refl
unary_begins p (Operator (Plain Sub)) n = refl
unary_begins p (mark Tilde) n = refl
unary_begins p _ n = absurd (n refl)

atom_starts : (p : WhichPart) (next : Option Lexeme) → BeginsAtom next → begins_item p next ≡ true
atom_starts p (Some (sign l (singleton k))) b = refl
atom_starts p (Some (sign l (mark Open))) b = refl
atom_starts p (Some (sign l (mark OpenBracket))) b = refl
atom_starts p (Some (sign l (mark OpenBrace))) b = refl
atom_starts p (Some (sign l (layout FStart))) b = refl
atom_starts p (Some (sign l _)) b = absurd b
atom_starts p (Some (name l x)) b = refl
atom_starts p (Some (int l n)) b = refl
atom_starts p (Some (str l x)) b = refl
atom_starts p _ b = absurd b

factor_starts : (p : WhichPart) (next : Option Lexeme) → BeginsFactor next → begins_item p next ≡ true
factor_starts p next (inl b) = atom_starts p next b
factor_starts p (Some (sign l s)) (inr n) = unary_begins p s n
factor_starts p _ (inr n) = absurd (n refl)

expr_starts : (next : Option Lexeme) → BeginsExpr next → begins_item Whole next ≡ true
expr_starts next (inl (inl b)) = factor_starts Whole next b
expr_starts next (inl (inr b)) = ap (begins_item Whole) b.1
expr_starts next (inr b) = ap (begins_item Whole) b.1

pub item_begins : {p : WhichPart} {ts mid : List Lexeme} {e : Exp} → Item p ts e mid → begins_item p (next_of ts) ≡ true
item_begins (starred k) = refl
item_begins {ts = ts} (operand k) = factor_starts Target (next_of ts) (binary_begins k)
item_begins {ts = ts} (unstarred k) = expr_starts (next_of ts) (expr_begins k)

factor_binary : (n : ℕ) {ts z : List Lexeme} {e : Exp} → Factor ts e z → Binary n ts e z
factor_binary zero k = factor k
factor_binary (suc n) k = binary (factor_binary n k) operated_end

pub negation_expr : {ts z : List Lexeme} {e : Exp} → Negation ts e z → Expr ts e z
negation_expr k = expr (disjunction (conjunction k conjoined_end) disjoined_end) no_choice

factor_item : (p : WhichPart) {ts z : List Lexeme} {e : Exp} → Factor ts e z → Item p ts e z
factor_item Whole k = unstarred (negation_expr (comparison (comparisons (factor_binary 6 k) compared_end)))
factor_item Target k = operand (factor_binary 6 k)

atom_item : (p : WhichPart) {ts z : List Lexeme} {e : Exp} → Atom ts e z → Item p ts e z
atom_item p a = factor_item p (no_unary (power (primary a trailed_end) not_raised))

abbrev FarItem : WhichPart → Lexeme → Type 0
FarItem p t = (w : List Lexeme) × (e : Exp) × ((z : List Lexeme) → Item p (t ∷ (w ++ z)) e z)

far_sign : (p : WhichPart) (l : ℕ) (s : Sign) → begins_sign p s ≡ true → FarItem p (sign l s)
far_sign p l (singleton k) h = ([], S.constant l (constant_of k), λ z. atom_item p a_singleton)
far_sign p l (mark Open) h = (sign 0 (mark Close) ∷ [], S.parenthesized l (S.tuple l S.no_exps), λ z. atom_item p no_tuple)
far_sign p l (mark OpenBracket) h = (sign 0 (mark CloseBracket) ∷ [], S.list l S.no_exps, λ z. atom_item p no_list)
far_sign p l (mark OpenBrace) h = (sign 0 (mark CloseBrace) ∷ [], S.dict l S.no_entries, λ z. atom_item p no_dict)
far_sign p l (layout FStart) h = (sign 0 (layout FEnd) ∷ [], S.joined l S.no_pieces, λ z. atom_item p (an_f_string formatted_end strings_end))
far_sign p l (mark Tilde) h = (some_name ∷ [], S.unary l Invert some_exp, λ z. factor_item p (unary refl name_factor))
far_sign p l (Operator (Plain Add)) h = (some_name ∷ [], S.unary l Plus some_exp, λ z. factor_item p (unary refl name_factor))
far_sign p l (Operator (Plain Sub)) h = (some_name ∷ [], S.unary l Minus some_exp, λ z. factor_item p (unary refl name_factor))
far_sign p l (Operator (Plain Mul)) h = (some_name ∷ [], S.starred l some_exp, λ z. starred (name_binary 6))
far_sign Whole l (word Not) h = (some_name ∷ [], S.not_of l some_exp, λ z. unstarred (negation_expr (not_so name_negation)))
far_sign Whole l (word Lambda) h = (sign 0 (mark Colon) ∷ (some_name ∷ []), S.lambda l (params_of no_parameters) some_exp, λ z. unstarred (lambda no_parameter name_expr))
far_sign p l _ h = cc

pub far_item : (p : WhichPart) (t : Lexeme) → begins_item p (Some t) ≡ true → FarItem p t
far_item p (name l x) h = ([], S.name l x, λ z. atom_item p a_name)
far_item p (int l n) h = ([], S.constant l _, λ z. atom_item p an_int)
far_item p (str l x) h = ([], string_of l (quoted false (text l x ∷ [])), λ z. atom_item p (a_string strings_end))
far_item p (sign l s) h = far_sign p l s h
far_item p _ h = cc

pub item_token : (p : WhichPart) (next : Option Lexeme) → begins_item p next ≡ true → (t : Lexeme) × (next ≡ Some t)
item_token p (Some t) h = (t, refl)
item_token p None h = cc

pub not_comma : (next : Option Lexeme) → sign_at next ≢ Some (mark Comma) → IsComma next → ⊥
not_comma (Some (sign l (mark Comma))) n c = n refl
not_comma (Some (sign l _)) n c = c
not_comma (Some _) n c = c
not_comma None n c = c

-- lists of items
abbrev pub item_more : List Exp → Exp → List Exp
item_more es e = es ++ (e ∷ [])

abbrev pub opened : List Exp → Listed
opened es = listed es false

abbrev pub closed : List Exp → Listed
closed es = listed es true

abbrev pub ItemNext : WhichPart → Option Lexeme → Type 0
ItemNext p o = begins_item p o ≡ true

last_more : (before : Exp) (es : List Exp) (e : Exp) → last_of before (es ++ (e ∷ [])) ≡ e
last_more before [] e = refl
last_more before (f ∷ es) e = last_more f es e

last_stops : (p : WhichPart) (es : List Exp) (e : Exp) (o : Option Lexeme) → StopsItems p false (es ++ (e ∷ [])) o → Stops (item_rank p e) e o
last_stops p [] e o s = s.0
last_stops p (f ∷ es) e o s = subst (λ u. Stops (item_rank p u) u o) (last_more f es e) s.0

pub stops_last : (p : WhichPart) (es : List Exp) (e : Exp) (o : Option Lexeme) → Stops (item_rank p e) e o → (IsComma o → ⊥) → StopsItems p false (es ++ (e ∷ [])) o
stops_last p [] e o s n = (s, n)
stops_last p (f ∷ es) e o s n = (subst (λ u. Stops (item_rank p u) u o) (sym (last_more f es e)) s, n)

depth_more : (es : List Exp) (e : Exp) → depth_all (all_of (es ++ (e ∷ []))) ≡ max (depth_all (all_of es)) (depth_exp e)
depth_more [] e = omega arith
depth_more (f ∷ es) e = omega (arith, depth_more es e)

width_more : (es : List Exp) (e : Exp) → width_all (all_of (es ++ (e ∷ []))) ≡ max (width_all (all_of es)) (width_exp e)
width_more [] e = omega arith
width_more (f ∷ es) e = omega (arith, width_more es e)

pub count_more : (es : List Exp) (e : Exp) → count_exps (all_of (es ++ (e ∷ []))) ≡ count_exps (all_of es) + 1
count_more [] e = omega arith
count_more (f ∷ es) e = omega (arith, count_more es e)

pub count_length : {X : Type 0} (f : X → Exp) (xs : List X) → count_exps (all_of (map f xs)) ≡ length xs
count_length f [] = refl
count_length f (x ∷ xs) = omega (arith, count_length f xs)

pub items_grow : (d : ℕ) (es : List Exp) (e : Exp) → FitsItems d es → count_exps (all_of es) < max_items → Fits d e → FitsItems d (es ++ (e ∷ []))
items_grow d es e f h g = (omega (arith, f.0, g.0, depth_more es e), omega (arith, f.1, g.1, width_more es e), omega (arith, h, count_more es e))

items_shrink : (d : ℕ) (es : List Exp) (e : Exp) → FitsItems d (es ++ (e ∷ [])) → FitsItems d es
items_shrink d es e f = (omega (arith, f.0, depth_more es e), omega (arith, f.1, width_more es e), omega (arith, f.2, count_more es e))

comma_stops : (p : WhichPart) (es : List Exp) (l : ℕ) → StopsItems p false es (Some (sign l (mark Comma))) → ⊥
comma_stops p [] l s = s tt
comma_stops p (e ∷ es) l s = s.1 tt

nothing_stops : (p : WhichPart) (es : List Exp) → StopsItems p false es None
nothing_stops p [] = λ b. b
nothing_stops p (e ∷ es) = ((omega (arith, rank_small p (last_of e es)), none (ends_in_text (last_of e es))), λ b. b)
  where
    none : (b : Bool) → Apart b None
    none true = tt
    none false = tt

module _ (p : WhichPart) (d : ℕ) where
  more_shrinks : (es : List Exp) {x : Listed} {ts rest : List Lexeme} → MoreItems p es ts x rest → FitsItems d x.items → FitsItems d es
  more_shrinks es no_comma f = f
  more_shrinks es last_comma f = f
  more_shrinks es (more_items {e = e} q k) f = items_shrink d es e (more_shrinks (es ++ (e ∷ [])) k f)

  pub items_list : Lists (some_exprs p d) (MoreItems p) (IsSign (mark Comma)) (an_item p d) (ItemNext p) item_more opened closed
  items_list = record {
    done = λ s ts. no_comma;
    last = λ s t ts j. final j;
    step = λ s t ts mid rest b x j q k. step j q k;
    out = λ s ts x rest k. out k;
    ends = λ s t n j. ends s n j;
    closes = λ s o n b. let h = sym b ∙ n in cc;
    begins = λ ts mid b q. item_begins q;
    no_end = λ h. cc;
    far = λ t h. far_item p t h;
    finale = [];
    at_last_end = λ s. nothing_stops p s;
    stays = λ s b o n. last_stops p s b o n;
    goes = λ b u j. goes b j;
    shrinks = λ s ts x rest k f. more_shrinks s k f;
    same = λ s f. f;
    part = λ s b f. (omega (arith, f.0, depth_more s b), omega (arith, f.1, width_more s b));
  }
    where
      final : {s : List Exp} {t : Lexeme} {ts : List Lexeme} → IsSign (mark Comma) t → MoreItems p s (t ∷ ts) (closed s) ts
      final is_sign = last_comma

      step : {s : List Exp} {b : Exp} {x : Listed} {t : Lexeme} {ts mid rest : List Lexeme} → IsSign (mark Comma) t → Item p ts b mid → MoreItems p (s ++ (b ∷ [])) mid x rest → MoreItems p s (t ∷ ts) x rest
      step is_sign q k = more_items q k

      out : {s : List Exp} {x : Listed} {ts rest : List Lexeme} → MoreItems p s ts x rest → Out (some_exprs p d) (MoreItems p) (IsSign (mark Comma)) (an_item p d) (ItemNext p) item_more opened closed s ts x rest
      out no_comma = at_end
      out last_comma = at_last is_sign
      out (more_items q k) = at_item is_sign q k

      ends : (s : List Exp) {t : Lexeme} → StopsItems p false s (Some t) → IsSign (mark Comma) t → ⊥
      ends s n (is_sign {l = l}) = comma_stops p s l n

      goes : (b : Exp) {u : Lexeme} → IsSign (mark Comma) u → Stops (item_rank p b) b (Some u)
      goes b (is_sign {l = l}) = (omega (arith, rank_small p b), apart_mark (ends_in_text b) l Comma)

  pub items_open : Opens (some_exprs p d) (MoreItems p) (IsSign (mark Comma)) (an_item p d) (ItemNext p) item_more opened closed (λ e. e ∷ [])
  items_open = record {
    intro = λ ts b mid x rest q k. exprs q k;
    inv = λ ts x rest k. out k;
    stays = λ b o s. s.0;
    fits = λ b f. (omega (arith, f.0), omega (arith, f.1), omega arith);
    part = λ b f. (omega (arith, f.0), omega (arith, f.1));
  }
    where
      out : {ts rest : List Lexeme} {x : Listed} → Exprs p ts x rest → (b : Exp) × (mid : List Lexeme) × Item p ts b mid × MoreItems p (b ∷ []) mid x rest
      out (exprs q k) = (_, _, q, k)

  pub items_first : Binds (an_item p d) (λ b. MoreItems p (b ∷ [])) (some_exprs p d)
  items_first = first_binds (some_exprs p d) (MoreItems p) (IsSign (mark Comma)) (an_item p d) (ItemNext p) item_more opened closed items_list items_open

  pub items_comma : (es : List Exp) (l : ℕ) → Shifts (sign l (mark Comma)) (left (some_exprs p d) (Behind (some_exprs p d) (MoreItems p) (IsSign (mark Comma)) (an_item p d) (ItemNext p) item_more opened closed es)) (left (some_exprs p d) (MoreItems p es))
  items_comma es l = between_shifts (some_exprs p d) (MoreItems p) (IsSign (mark Comma)) (an_item p d) (ItemNext p) item_more opened closed items_list es (sign l (mark Comma)) is_sign

  pub items_another : (es : List Exp) (ts : List Lexeme) → begins_item p (next_of ts) ≡ true
      → Carries (left (some_exprs p d) (Behind (some_exprs p d) (MoreItems p) (IsSign (mark Comma)) (an_item p d) (ItemNext p) item_more opened closed es)) ts (left (some_exprs p d) (Another (some_exprs p d) (MoreItems p) (IsSign (mark Comma)) (an_item p d) (ItemNext p) item_more opened closed es)) ts
  items_another es ts b = another_carries (some_exprs p d) (MoreItems p) (IsSign (mark Comma)) (an_item p d) (ItemNext p) item_more opened closed items_list es ts b

  pub items_next : (es : List Exp) → FitsItems d es → count_exps (all_of es) < max_items → Binds (an_item p d) (λ b. MoreItems p (es ++ (b ∷ []))) (left (some_exprs p d) (Another (some_exprs p d) (MoreItems p) (IsSign (mark Comma)) (an_item p d) (ItemNext p) item_more opened closed es))
  items_next es f h = another_binds (some_exprs p d) (MoreItems p) (IsSign (mark Comma)) (an_item p d) (ItemNext p) item_more opened closed items_list es (λ b g. items_grow d es b f h g)

  pub items_last : (es : List Exp) (ts : List Lexeme) → begins_item p (next_of ts) ≡ false → FitsItems d es → Found (left (some_exprs p d) (Behind (some_exprs p d) (MoreItems p) (IsSign (mark Comma)) (an_item p d) (ItemNext p) item_more opened closed es)) ts (closed es) ts
  items_last es ts n f = last_found (some_exprs p d) (MoreItems p) (IsSign (mark Comma)) (an_item p d) (ItemNext p) item_more opened closed items_list es ts (λ b. let h = sym b ∙ n in cc) n f

  pub items_end : (es : List Exp) (ts : List Lexeme) → sign_at (next_of ts) ≢ Some (mark Comma) → StopsItems p false es (next_of ts) → FitsItems d es
      → Found (left (some_exprs p d) (MoreItems p es)) ts (opened es) ts
  items_end es ts n s f = list_found (some_exprs p d) (MoreItems p) (IsSign (mark Comma)) (an_item p d) (ItemNext p) item_more opened closed items_list es ts (not_signed (next_of ts) n) s f

  pub items_over : (es : List Exp) (ts : List Lexeme) → begins_item p (next_of ts) ≡ true → FitsItems d es → max_items ≤ count_exps (all_of es)
      → Refused (left (some_exprs p d) (Behind (some_exprs p d) (MoreItems p) (IsSign (mark Comma)) (an_item p d) (ItemNext p) item_more opened closed es)) true ts ts
  items_over es ts b f h =
      let t = item_token p (next_of ts) b in
      list_over (some_exprs p d) (MoreItems p) (IsSign (mark Comma)) (an_item p d) (ItemNext p) item_more opened closed items_list es t.0 ts t.1 (sym (ap (begins_item p) t.1) ∙ b) f (λ e g. omega (arith, h, g.2, count_more es e))
