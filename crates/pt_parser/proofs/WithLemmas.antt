-- How what is left of the items of a `with` goes on.
use Rattle.std.proofs.Common.{◌≡◌, ◌≢◌, ℕ, ◌<◌, List, [], ◌∷◌, ◌++◌, Option, Some, None, Bool, true, false, inl, inr, refl, sym, ◌∙◌, ap, subst, arith}
use Rattle.pt_wide.specs.Syntax as S
use Rattle.pt_wide.specs.Syntax.{Exp, Opt, absent, given}
use Rattle.pt_readers.specs.Reading.{next_of, behind, Part, Alike, Found, Refused, Carries, Within}
use Rattle.pt_readers.proofs.Readers.{Binds, Shifts, Narrows, left, bad_refused, nothing_found}
use Rattle.pt_grammar.specs.declared.sign.Sign.{Sign}
use Rattle.pt_grammar.specs.declared.sign.Sign.TheVariants.{Mark as mark, Keyword as keyword}
use Rattle.pt_grammar.specs.declared.sign.Mark.TheVariants.{Open, Close, Colon, Comma}
use Rattle.pt_grammar.specs.declared.sign.Keyword.TheVariants.{As}
use Rattle.pt_grammar.specs.Lexemes.{Lexeme, sign, sign_at}
use Rattle.pt_grammar.specs.Grammar.{Atom, in_parentheses, no_tuple, a_generator, a_string, an_f_string}
use Rattle.pt_grammar.specs.Nodes.{OnePiece, string_at}
use Rattle.pt_grammar.specs.BehindAtom.{OfExpr}
use Rattle.pt_grammar.specs.Parts.{Stops, ends_in_text}
use Rattle.pt_grammar.proofs.Atoms.{apart_mark}
use Rattle.pt_grammar.proofs.Begins.{some_name, some_exp, fits_name, name_expr}
use Rattle.pt_grammar.specs.Behind.{Inside, nothing, something, generated}
use Rattle.pt_grammar.proofs.AtomFirst.{is_operated, Step, Heads, expr_heads, expr_from, of_expr_step, of_expr_nothing}
use Rattle.pt_parser.specs.Forms.{Reads, Is, is, Then, Optional, left_out, written, More, no_more, one_more, an_optional}
use Rattle.pt_parser.specs.Simple.{comma, an_expression, a_place}
use Rattle.pt_parser.specs.Limits.{FitsExp, FitsOpt}
use Rattle.pt_parser.specs.Parts.{Each, with_items, a_with_item}
use Rattle.pt_parser.specs.With.{OneItem, item_of, WithItem, encloses, is_enclosed, Enclosed, WithItems, enclosed, not_enclosed, FitsItem}
use Rattle.pt_parser.specs.WithLeft.{Rest, Entered, FromAtom, Opened, of_items, of_atom}
use Rattle.pt_parser.proofs.Tokens.{sign_next, not_sign}
use Rattle.pt_parser.proofs.Chains.{Ready, ready_is, within_two, within_one, within_all, Follows, chain, is_found}
use Rattle.pt_parser.proofs.Follow.{Begins, begins_not, Follow, follow_at, follow_stops, expr_begins, expr_follow, expr_comma, expr_ready, optional_ready}
use Rattle.pt_parser.proofs.UpTo.{Closable, each_snoc, each_before, each_behind, each_both}

-- the signs that end an item
abbrev pub EndsItem : Sign → Type 0
EndsItem (mark Comma) = Unit {0}
EndsItem (mark Close) = Unit {0}
EndsItem (mark Colon) = Unit {0}
EndsItem _ = ⊥

pub place_ends : (e : Exp) (l : ℕ) (s : Sign) → EndsItem s → a_place.stops e (Some (sign l s))
place_ends e l (mark Comma) h = (omega arith, apart_mark (ends_in_text e) l Comma)
place_ends e l (mark Close) h = follow_stops 7 e (Some (sign l (mark Close))) (omega arith) tt
place_ends e l (mark Colon) h = follow_stops 7 e (Some (sign l (mark Colon))) (omega arith) tt
place_ends e l _ h = absurd h

pub expr_ends : (e : Exp) (l : ℕ) (s : Sign) → EndsItem s → an_expression.stops e (Some (sign l s))
expr_ends e l (mark Comma) h = expr_comma e l
expr_ends e l (mark Close) h = expr_follow e (Some (sign l (mark Close))) tt
expr_ends e l (mark Colon) h = expr_follow e (Some (sign l (mark Colon))) tt
expr_ends e l _ h = absurd h

no_as : (s : Sign) → EndsItem s → Some s ≢ Some (keyword As)
no_as (mark m) h e = cc
no_as _ h e = absurd h

pub target_ends : (t : Opt) (l : ℕ) (s : Sign) → EndsItem s → (an_optional (keyword As) a_place).stops t (Some (sign l s))
target_ends absent l s h = no_as s h
target_ends (given e) l s h = place_ends e l s h

pub item_ends : (i : OneItem) (l : ℕ) (s : Sign) → EndsItem s → a_with_item.stops i (Some (sign l s))
item_ends i l s h = (target_ends i.target l s h, λ e. expr_ends i.context l s h)

-- the same of the next token
at_sign : {s : Sign} (F : Option Lexeme → Type 0) (o : Option Lexeme) → sign_at o ≡ Some s → ((l : ℕ) → F (Some (sign l s))) → F o
at_sign F None h f = cc
at_sign {s} F (Some (sign l u)) h f = let e : s ≡ u = cc in subst (λ v. F (Some (sign l v))) e (f l)
at_sign F (Some _) h f = cc

-- "as" target
abbrev pub ItemTarget : Exp → Reads OneItem
ItemTarget e = Then (Optional (keyword As) a_place.reads) (λ t. Is (item_of e t))

pub as_expr : (e : Exp) {s : Sign} (l : ℕ) → s ≡ keyword As → an_expression.stops e (Some (sign l s))
as_expr e {s} l h = expr_follow e (Some (sign l s)) (follow_at (Some (sign l s)) (ap (λ u. Some u) h) tt)

pub context_binds : Binds an_expression ItemTarget a_with_item
context_binds = chain a_with_item an_expression ItemTarget record {
  apart = λ e mid i rest k n. apart k.2 k.3 n;
  down = λ e mid i rest k f. down k.3 f;
  ready = λ over e f. record { word = []; done = item_of e absent; fits = within_one FitsExp FitsItem over e (item_of e absent) (λ f. (f, tt)) f; reads = λ z. (_, _, left_out, is) };
}
  where
    apart : {e : Exp} {t : Opt} {i : OneItem} {mid us rest : List Lexeme} → Optional (keyword As) a_place.reads mid t us → Is (item_of e t) us i rest → a_with_item.stops i (next_of rest) → an_expression.stops e (next_of mid)
    apart left_out is n = n.1 refl
    apart {e} (written {l = l} h q) is n = as_expr e l h

    down : {e : Exp} {t : Opt} {i : OneItem} {us rest : List Lexeme} → Is (item_of e t) us i rest → FitsItem i → FitsExp e
    down is f = f.0

pub target_binds : (e : Exp) → FitsExp e → Binds (an_optional (keyword As) a_place) (λ t. Is (item_of e t)) (left a_with_item (ItemTarget e))
target_binds e f = chain a_with_item (an_optional (keyword As) a_place) (λ t. Is (item_of e t)) record {
  apart = λ t mid i rest k n. apart k n;
  down = λ t mid i rest k g. down k g;
  ready = λ over t g. ready_is FitsItem over (item_of e t) (within_one FitsOpt FitsItem over t (item_of e t) (λ g. (f, g)) g);
}
  where
    apart : {t : Opt} {i : OneItem} {mid rest : List Lexeme} → Is (item_of e t) mid i rest → a_with_item.stops i (next_of rest) → (an_optional (keyword As) a_place).stops t (next_of mid)
    apart is n = n.0

    down : {t : Opt} {i : OneItem} {mid rest : List Lexeme} → Is (item_of e t) mid i rest → FitsItem i → FitsOpt t
    down is g = g.1

-- Where no target is read, nothing is.
pub untargeted : {ts rest : List Lexeme} {t : Opt} → Found (an_optional (keyword As) a_place) ts t rest → t ≡ absent → rest ≡ ts
untargeted {ts} {rest} {t} f h = sym (f.whole ∙ sym (out (f.reads rest) h))
  where
    out : {us end : List Lexeme} {o : Opt} → Optional (keyword As) a_place.reads us o end → o ≡ absent → end ≡ us
    out left_out h = refl
    out (written e q) h = cc

pub item_closable : Closable comma (mark Close) a_with_item
item_closable = record {
  differ = λ h. cc;
  at_sign = λ i l. item_ends i l comma tt;
  at_close = λ i l. item_ends i l (mark Close) tt;
  begins = λ ts i rest k h. begins_not {s = mark Close} (next_of ts) h (expr_begins k.2);
  ready = λ over. record { word = some_name ∷ []; done = item_of some_exp absent; fits = within_all FitsItem over (item_of some_exp absent) (fits_name 500 (omega arith), tt); reads = λ z. (_, _, name_expr, (_, _, left_out, is)) };
}

-- two items aren't enclosed, nor is one that has a target
pub enclosed_two : (xs : List OneItem) (y : OneItem) → xs ≢ [] → is_enclosed (xs ++ (y ∷ [])) ≡ false
enclosed_two [] y n = absurd (n refl)
enclosed_two (x ∷ []) y n = refl
enclosed_two (x ∷ (z ∷ xs)) y n = refl

pub snoc_some : (xs : List OneItem) (x : OneItem) → xs ++ (x ∷ []) ≢ []
snoc_some [] x h = cc
snoc_some (y ∷ xs) x h = cc

-- { "," item }
abbrev pub NextItem : List OneItem → Reads (List OneItem)
NextItem xs = Then WithItem (λ i. Rest (xs ++ (i ∷ [])))

colon_comma : {A : Type 0} {s : Sign} → s ≡ comma → Some s ≡ Some (mark Colon) → A
colon_comma h e = cc

pub comma_shifts : (xs : List OneItem) (l : ℕ) → Shifts (sign l comma) (left with_items (NextItem xs)) (left with_items (Rest xs))
comma_shifts xs l = record { intro = λ ts ys rest k. into k.2 k.3; inv = λ ts ys rest k n. (out refl k.0 k.1 n, n); stop = λ ys o n. n; up = λ ys f. f; down = λ ys f. f }
  where
    into : {i : OneItem} {ts mid rest : List Lexeme} {ys : List OneItem} → WithItem ts i mid → Rest (xs ++ (i ∷ [])) mid ys rest → Rest xs (sign l comma ∷ ts) ys rest
    into q k = (one_more refl q k.0, k.1)

    out : {s : Sign} {ts rest : List Lexeme} {ys : List OneItem} → s ≡ comma → More comma WithItem xs (sign l s ∷ ts) ys rest → is_enclosed ys ≡ false → sign_at (next_of rest) ≡ Some (mark Colon) → NextItem xs ts ys rest
    out h no_more f n = colon_comma h n
    out h (one_more e q k) f n = (_, _, q, (k, f))

more_keeps : (xs : List OneItem) {ys : List OneItem} {ts rest : List Lexeme} → More comma WithItem xs ts ys rest → Each FitsItem ys → Each FitsItem xs
more_keeps xs no_more f = f
more_keeps xs (one_more {x = x} e q k) f = each_before FitsItem xs (x ∷ []) (more_keeps (xs ++ (x ∷ [])) k f)

-- What begins with more items, or is at its end, ends an item.
rest_ends : (F : Option Lexeme → Type 0) → ((l : ℕ) (s : Sign) → EndsItem s → F (Some (sign l s))) → {xs ys : List OneItem} {ts rest : List Lexeme}
    → More comma WithItem xs ts ys rest → sign_at (next_of rest) ≡ Some (mark Colon) → F (next_of ts)
rest_ends F f no_more n = at_sign F _ n (λ l. f l (mark Colon) tt)
rest_ends F f (one_more {l = l} {t = s} e q k) n = subst (λ u. F (Some (sign l u))) (sym e) (f l comma tt)

pub another : {k : ℕ} {xs : List OneItem} (z : List Lexeme) → xs ≢ [] → Rest xs (sign k comma ∷ (some_name ∷ z)) (xs ++ (item_of some_exp absent ∷ [])) z
another {xs} z n = (one_more refl (_, _, name_expr, (_, _, left_out, is)) no_more, enclosed_two xs (item_of some_exp absent) n)

pub fits_some : FitsItem (item_of some_exp absent)
fits_some = (fits_name 500 (omega arith), tt)

pub next_binds : (xs : List OneItem) → Each FitsItem xs → xs ≢ [] → Binds a_with_item (λ i. Rest (xs ++ (i ∷ []))) (left with_items (NextItem xs))
next_binds xs f n = chain with_items a_with_item (λ i. Rest (xs ++ (i ∷ []))) record {
  apart = λ i mid ys rest k m. rest_ends (a_with_item.stops i) (λ l s h. item_ends i l s h) k.0 m;
  down = λ i mid ys rest k g. (each_behind FitsItem xs (i ∷ []) (more_keeps (xs ++ (i ∷ [])) k.0 g)).0;
  ready = λ over i g. record {
    word = [];
    done = xs ++ (i ∷ []);
    fits = within_one FitsItem (Each FitsItem) over i (xs ++ (i ∷ [])) (λ g. each_snoc FitsItem xs i f g) g;
    reads = λ z. (no_more, enclosed_two xs i n);
  };
}

-- the colon is next
pub rest_found : (xs : List OneItem) (ts : List Lexeme) → Each FitsItem xs → (is_enclosed xs ≡ true → sign_at (next_of ts) ≢ Some (mark Colon)) → sign_at (next_of ts) ≡ Some (mark Colon)
    → Found (left with_items (Rest xs)) ts xs ts
rest_found xs ts f p h = nothing_found (left with_items (Rest xs)) ts xs (λ more. (no_more, unclosed (is_enclosed xs) refl)) h f (λ more a ys rest k n. out (not_sign ts a (λ e. clash (sym h ∙ e))) k.0)
  where
    clash : {A : Type 0} → Some (mark Colon) ≡ Some comma → A
    clash e = cc

    unclosed : (b : Bool) → is_enclosed xs ≡ b → is_enclosed xs ≡ false
    unclosed true e = absurd (p e h)
    unclosed false e = e

    out : {more rest : List Lexeme} {ys : List OneItem} → sign_at (next_of more) ≢ Some comma → More comma WithItem xs more ys rest → (ys ≡ xs) × (rest ≡ more)
    out m no_more = (refl, refl)
    out m (one_more e q k) = absurd (m (ap (λ u. Some u) e))

-- neither a comma nor the colon is next
pub rest_bad : (xs : List OneItem) (ts : List Lexeme) → Each FitsItem xs → xs ≢ [] → sign_at (next_of ts) ≢ Some comma → sign_at (next_of ts) ≢ Some (mark Colon)
    → Refused (left with_items (Rest xs)) false ts ts
rest_bad xs ts f n a b = bad_refused (left with_items (Rest xs)) ts (λ more e ys rest k m. out (not_sign ts e a) (not_sign ts e b) k.0 m)
    (sign 0 comma ∷ (some_name ∷ [])) (xs ++ (item_of some_exp absent ∷ [])) (each_snoc FitsItem xs (item_of some_exp absent) f fits_some) (λ z. another z n)
  where
    out : {more rest : List Lexeme} {ys : List OneItem} → sign_at (next_of more) ≢ Some comma → sign_at (next_of more) ≢ Some (mark Colon) → More comma WithItem xs more ys rest
        → sign_at (next_of rest) ≡ Some (mark Colon) → ⊥
    out p q no_more m = q m
    out p q (one_more e i k) m = p (ap (λ u. Some u) e)

-- behind the expression of the first item
pub entered_binds : (e : Exp) → FitsExp e → Binds (an_optional (keyword As) a_place) (λ t. Rest (item_of e t ∷ [])) (left with_items (Entered e))
entered_binds e f = chain with_items (an_optional (keyword As) a_place) (λ t. Rest (item_of e t ∷ [])) record {
  apart = λ t mid ys rest k m. rest_ends ((an_optional (keyword As) a_place).stops t) (λ l s h. target_ends t l s h) k.0 m;
  down = λ t mid ys rest k g. (more_keeps (item_of e t ∷ []) k.0 g).0.1;
  ready = λ over t g. record {
    word = sign 0 comma ∷ (some_name ∷ []);
    done = (item_of e t ∷ []) ++ (item_of some_exp absent ∷ []);
    fits = within_one FitsOpt (Each FitsItem) over t ((item_of e t ∷ []) ++ (item_of some_exp absent ∷ [])) (λ g. ((f, g), (fits_some, tt))) g;
    reads = λ z. another z (λ h. cc);
  };
}

-- An item that is only parentheses isn't all where they hold items.
pub first_apart : (e : Exp) (t : Opt) {ts rest : List Lexeme} → (encloses e ≡ true → sign_at (next_of ts) ≢ Some (mark Colon)) → Found (an_optional (keyword As) a_place) ts t rest
    → is_enclosed (item_of e t ∷ []) ≡ true → sign_at (next_of rest) ≢ Some (mark Colon)
first_apart e absent n f h k = n h (ap (λ u. sign_at (next_of u)) (sym (untargeted f refl)) ∙ k)
first_apart e (given x) n f h k = cc

-- Where what an expression is encloses something, a parenthesis begins it.
string_open : (l : ℕ) (b : Bool) (ps : List OnePiece) → encloses (string_at l b ps) ≡ false
string_open l true ps = refl
string_open l false ps = refl

parenthesis_first : {ts rest : List Lexeme} {e : Exp} → Atom ts e rest → encloses e ≡ true → sign_at (next_of ts) ≡ Some (mark Open)
parenthesis_first (in_parentheses q) h = refl
parenthesis_first no_tuple h = refl
parenthesis_first (a_generator q k) h = refl
parenthesis_first (a_string {l = l} {q = q} k) h = let g = sym h ∙ string_open l q.formatted q.pieces in cc
parenthesis_first (an_f_string {l = l} {q = q} k j) h = let g = sym h ∙ string_open l q.formatted q.pieces in cc
parenthesis_first _ h = cc

operated_open : (e : Exp) → is_operated e ≡ true → encloses e ≡ true → ⊥
operated_open (S.parenthesized l e) h g = cc
operated_open _ h g = cc

pub encloses_begins : {ts rest : List Lexeme} {e : Exp} → an_expression.reads ts e rest → encloses e ≡ true → sign_at (next_of ts) ≡ Some (mark Open)
encloses_begins {ts} {rest} {e} q h = out (expr_heads q)
  where
    begun : {a : Exp} {mid : List Lexeme} → Atom ts a mid → Step a mid e rest → sign_at (next_of ts) ≡ Some (mark Open)
    begun x (inl k) = parenthesis_first x (ap encloses (sym k.0) ∙ h)
    begun x (inr g) = absurd (operated_open e g.node h)

    out : Heads OfExpr ts e rest → sign_at (next_of ts) ≡ Some (mark Open)
    out (inl k) = begun k.2 (of_expr_step k.3)
    out (inr k) = absurd (operated_open e k.0 h)

-- where no parenthesis begins them
pub bare_narrows : (ts : List Lexeme) → sign_at (next_of ts) ≢ Some (mark Open) → Narrows ts (left with_items (Then an_expression.reads Entered)) with_items
bare_narrows ts n = record { into = λ more ys rest k. into k.2 k.3; out = λ more ys rest a k m. (out (not_sign ts a n) k, m); stop = λ ys o m. m; up = λ ys f. f; down = λ ys f. f }
  where
    into : {more mid rest : List Lexeme} {e : Exp} {ys : List OneItem} → an_expression.reads more e mid → Entered e mid ys rest → WithItems more ys rest
    into q k = not_enclosed (_, _, (_, _, q, (_, _, k.2, is)), k.3.0) k.3.1

    first : {more mid rest : List Lexeme} {i : OneItem} {ys : List OneItem} → WithItem more i mid → More comma WithItem (i ∷ []) mid ys rest → is_enclosed ys ≡ false → Then an_expression.reads Entered more ys rest
    first (e, us, q, (t, vs, o, is)) k f = (_, _, q, (_, _, o, (k, f)))

    out : {more rest : List Lexeme} {ys : List OneItem} → sign_at (next_of more) ≢ Some (mark Open) → WithItems more ys rest → Then an_expression.reads Entered more ys rest
    out m (enclosed k) = absurd (m refl)
    out m (not_enclosed k f) = first k.2 k.3 f

entered_apart : (e : Exp) {ts rest : List Lexeme} {ys : List OneItem} → Entered e ts ys rest → sign_at (next_of rest) ≡ Some (mark Colon) → an_expression.stops e (next_of ts)
entered_apart e k m = apart k.2 k.3 m
  where
    apart : {t : Opt} {ts mid rest : List Lexeme} {ys : List OneItem} → Optional (keyword As) a_place.reads ts t mid → Rest (item_of e t ∷ []) mid ys rest → sign_at (next_of rest) ≡ Some (mark Colon)
        → an_expression.stops e (next_of ts)
    apart left_out k m = rest_ends (an_expression.stops e) (λ l s h. expr_ends e l s h) k.0 m
    apart (written {l = l} h q) k m = as_expr e l h

pub entered_fits : (e : Exp) {ts rest : List Lexeme} {ys : List OneItem} → Entered e ts ys rest → Each FitsItem ys → FitsExp e
entered_fits e k f = (more_keeps (item_of e k.0 ∷ []) k.3.0 f).0.0

entered_ready : (over : Bool) (e : Exp) → Within FitsExp over e → Ready (Each FitsItem) over (Entered e)
entered_ready over e g = record {
  word = sign 0 comma ∷ (some_name ∷ []);
  done = (item_of e absent ∷ []) ++ (item_of some_exp absent ∷ []);
  fits = within_one FitsExp (Each FitsItem) over e ((item_of e absent ∷ []) ++ (item_of some_exp absent ∷ [])) (λ f. ((f, tt), (fits_some, tt))) g;
  reads = λ z. (_, _, left_out, another z (λ h. cc));
}

pub bare_binds : Binds an_expression Entered (left with_items (Then an_expression.reads Entered))
bare_binds = chain with_items an_expression Entered record {
  apart = λ e mid ys rest k m. entered_apart e k m;
  down = λ e mid ys rest k f. entered_fits e k f;
  ready = λ over e f. entered_ready over e f;
}

-- behind the atom in parentheses with which they begin
pub atom_binds : (a : Exp) → Binds (left an_expression (OfExpr a)) Entered (left with_items (FromAtom a))
atom_binds a = chain with_items (left an_expression (OfExpr a)) Entered record {
  apart = λ e mid ys rest k m. entered_apart e k m;
  down = λ e mid ys rest k f. entered_fits e k f;
  ready = λ over e f. entered_ready over e f;
}

pub atom_apart : (a e : Exp) {ts rest : List Lexeme} → (encloses a ≡ true → sign_at (next_of ts) ≢ Some (mark Colon)) → Found (left an_expression (OfExpr a)) ts e rest
    → encloses e ≡ true → sign_at (next_of rest) ≢ Some (mark Colon)
atom_apart a e {ts} {rest} n f h k = out (of_expr_step (subst (λ u. OfExpr a u e rest) (sym f.whole) (f.reads rest)))
  where
    out : Step a ts e rest → ⊥
    out (inl g) = n (ap encloses (sym g.0) ∙ h) (ap (λ u. sign_at (next_of u)) (sym g.1) ∙ k)
    out (inr g) = operated_open e g.node h

-- a parenthesis begins them
pub opened_shifts : (l : ℕ) → Shifts (sign l (mark Open)) (left with_items (Opened l)) with_items
opened_shifts l = record { intro = λ ts ys rest k. into k; inv = λ ts ys rest k n. (out k, n); stop = λ ys o n. n; up = λ ys f. f; down = λ ys f. f }
  where
    inside_atom : {ts mid : List Lexeme} {a : Exp} → Inside l ts a mid → Atom (sign l (mark Open) ∷ ts) a mid
    inside_atom nothing = no_tuple
    inside_atom (something k) = in_parentheses k
    inside_atom (generated q k) = a_generator q k

    atom_inside : {ts mid : List Lexeme} {a : Exp} → Atom (sign l (mark Open) ∷ ts) a mid → Inside l ts a mid
    atom_inside no_tuple = nothing
    atom_inside (in_parentheses k) = something k
    atom_inside (a_generator q k) = generated q k

    bare : {ts mid us rest : List Lexeme} {a e : Exp} {ys : List OneItem} → Inside l ts a mid → OfExpr a mid e us → Entered e us ys rest → WithItems (sign l (mark Open) ∷ ts) ys rest
    bare q o k = not_enclosed (_, _, (_, _, expr_from (inside_atom q) o, (_, _, k.2, is)), k.3.0) k.3.1

    into : {ts rest : List Lexeme} {ys : List OneItem} → Opened l ts ys rest → WithItems (sign l (mark Open) ∷ ts) ys rest
    into (of_items k) = enclosed k
    into (of_atom k) = bare k.2 k.3.2 k.3.3

    first : {ts mid rest : List Lexeme} {i : OneItem} {ys : List OneItem} → WithItem (sign l (mark Open) ∷ ts) i mid → More comma WithItem (i ∷ []) mid ys rest → is_enclosed ys ≡ false → Opened l ts ys rest
    first {ts} {mid} {rest} {ys = ys} (e, us, q, (t, vs, o, is)) k f = led (expr_heads q)
      where
        led : Heads OfExpr (sign l (mark Open) ∷ ts) e us → Opened l ts ys rest
        led (inl h) = of_atom (_, _, atom_inside h.2, (_, _, h.3, (_, _, o, (k, f))))
        led (inr h) = absurd (h.1 refl)

    out : {ts rest : List Lexeme} {ys : List OneItem} → WithItems (sign l (mark Open) ∷ ts) ys rest → Opened l ts ys rest
    out (enclosed k) = of_items k
    out (not_enclosed k f) = first k.2 k.3 f
