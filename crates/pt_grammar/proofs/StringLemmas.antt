-- Strings and f-strings.
use Rattle.std.proofs.Common.{◌≡◌, ◌≢◌, ℕ, zero, suc, ◌-◌, ◌<◌, Bool, true, false, List, [], ◌∷◌, ◌++◌, length, length-append, Option, Some, None, inl, inr, refl, sym, ◌∙◌, ap, subst, arith}
use Rattle.pt_tree.specs.declared.expression.Conversion.{Conversion}
use Rattle.pt_tree.specs.declared.expression.Conversion.TheVariants.{Repr}
use Rattle.pt_literals.specs.declared.token.TokenKind.{TokenKind}
use Rattle.pt_literals.specs.declared.token.TokenKind.TheVariants as kind
use Rattle.pt_wide.specs.Syntax as S
use Rattle.pt_wide.specs.Syntax.{Exp}
use Rattle.pt_readers.specs.Reading.{next_of, behind, Part, Alike, Dead, Within, Found, Refused, Carries}
use Rattle.pt_readers.proofs.Readers.{Binds, Shifts, Just, just, left, nothing_found, bad_refused}
use Rattle.pt_readers.proofs.Pieces.{Through, through, Made, made, made_binds}
use Rattle.pt_readers.proofs.Exits.{found_at, at_next, over_refused_at}
use Rattle.pt_grammar.specs.declared.part.Part.TheVariants.{Whole}
use Rattle.pt_grammar.specs.declared.sign.Sign.{Sign}
use Rattle.pt_grammar.specs.declared.sign.Sign.TheVariants.{Mark as mark, Layout as layout}
use Rattle.pt_grammar.specs.declared.sign.Mark.TheVariants.{OpenBrace, CloseBrace, Colon, Exclamation}
use Rattle.pt_grammar.specs.declared.sign.Layout.TheVariants.{FStart, FEnd}
use Rattle.pt_grammar.specs.Lexemes.{Lexeme, name, str, f_text, sign, sign_at, line_at, lexeme_at, signed, spelled}
use Rattle.pt_grammar.specs.Signs.{BeginsString, ends_items, ends_formatted, conversion_of}
use Rattle.pt_grammar.specs.Grammar as G
use Rattle.pt_grammar.specs.Grammar.{Value, Atom, Strings, strings_end, one_string, one_f_string, Formatted, formatted_end, Field, Converted, no_conversion, Specified, no_spec}
use Rattle.pt_grammar.specs.Nodes.{OnePiece, text, field, pieces_of, Quoted, quoted, string_at, string_of}
use Rattle.pt_grammar.specs.Parts.{Fits, FitsPieces, FitsPiece, Apart, ends_in_text, max_items, an_atom, a_value, some_formatted}
use Rattle.pt_grammar.proofs.PieceLemmas.{depth_pieces_snoc, width_pieces_snoc, depth_of_text, width_of_text}
use Rattle.pt_grammar.specs.Parts as P
use Rattle.pt_grammar.specs.Texts.{OneString, a_plain, a_formatted, FitsQuoted, a_string, PieceOf, some_text, some_field, a_piece, IsLiteral, BeginsPiece, ConversionName, conversion_name, a_conversion_name, StopsConversion, a_conversion, a_spec}
use Rattle.pt_grammar.proofs.Ranks.{IsSign, is_sign, signed_next}
use Rattle.pt_grammar.proofs.Begins.{some_name, some_exp, name_expr, depth_some}

-- Where P is K at the token t, with which K begins.
pub record Leads {T A : Type 0} (P : Part T A) (K : List T → A → List T → Type 0) (t : T) : Type 0 where
  pub into : (more : List T) (x : A) (rest : List T) → K more x rest → P.reads more x rest
  pub out : (more : List T) (x : A) (rest : List T) → next_of more ≡ Some t → P.reads more x rest → P.stops x (next_of rest) → K more x rest
  pub nothing : (x : A) (rest : List T) → K [] x rest → ⊥
  pub more : List T
  pub some : A
  pub rest : List T
  pub reads : K (t ∷ more) some rest
  pub stops : P.stops some (next_of rest)

module _ {T A : Type 0} {P : Part T A} {K : List T → A → List T → Type 0} {t : T} {ts : List T} (b : Leads P K t) (next : next_of ts ≡ Some t) where
  read_head : (x : A) (front end : List T) → ts ≡ front ++ end → K (front ++ []) x [] → (more : List T) → next_of (front ++ more) ≡ Some t
  read_head x [] end w k more = absurd (b.nothing x [] k)
  read_head x (u ∷ us) end w k more = sym (ap next_of w) ∙ next

  dead_head : (over : Bool) (front end : List T) → ts ≡ front ++ end
      → ((more : List T) → Dead over more end → (x' : A) (rest' : List T) → K (front ++ more) x' rest' → P.stops x' (next_of rest') → Within P.fits over x' → ⊥)
      → (more : List T) → Dead over more end → next_of (front ++ more) ≡ Some t
  dead_head over (u ∷ us) end w dead more h = sym (ap next_of w) ∙ next
  dead_head true [] end w dead more h = h ∙ (sym (ap next_of w) ∙ next)
  dead_head false [] end w dead more h = absurd (dead (t ∷ b.more) (inl (sym next ∙ ap next_of w)) b.some b.rest b.reads b.stops tt)

  lead_found : (x : A) (end : List T) → Found (left P K) ts x end → Found P ts x end
  lead_found x end f = record {
    front = f.front;
    whole = f.whole;
    reads = λ more. b.into _ _ _ (f.reads more);
    stops = f.stops;
    fits = f.fits;
    only = λ more h x' rest' l s. f.only more h x' rest' (b.out _ _ _ (read_head x f.front end f.whole (f.reads []) more) l s) s;
  }

  lead_refused : (over : Bool) (end : List T) → Refused (left P K) over ts end → Refused P over ts end
  lead_refused over end f = record {
    front = f.front;
    whole = f.whole;
    dead = λ more h x' rest' l s w. f.dead more h x' rest' (b.out _ _ _ (dead_head over f.front end f.whole f.dead more h) l s) s w;
    beyond = λ o. let v = f.beyond o in (v.0, v.1, v.2, v.3, λ z. b.into _ _ _ (v.4 z));
    completion = f.completion;
    completed = f.completed;
    fits = f.fits;
    completes = λ z. b.into _ _ _ (f.completes z);
  }

  pub lead_carries : Carries P ts (left P K) ts
  lead_carries = record { found = lead_found; refused = lead_refused }

-- the limits of parts
pub pieces_grow : (d : ℕ) (ps : List OnePiece) (p : OnePiece) → FitsPieces d ps → FitsPiece d p → FitsPieces d (ps ++ (p ∷ []))
pieces_grow d ps p f g = (omega (arith, f.0, g.0, depth_pieces_snoc ps p), omega (arith, f.1, g.1, width_pieces_snoc ps p))

pieces_first : (d : ℕ) (ps : List OnePiece) (p : OnePiece) → FitsPieces d (ps ++ (p ∷ [])) → FitsPieces d ps
pieces_first d ps p f = (omega (arith, f.0, depth_pieces_snoc ps p), omega (arith, f.1, width_pieces_snoc ps p))

pieces_last : (d : ℕ) (ps : List OnePiece) (p : OnePiece) → FitsPieces d (ps ++ (p ∷ [])) → FitsPiece d p
pieces_last d ps p f = (omega (arith, f.0, depth_pieces_snoc ps p), omega (arith, f.1, width_pieces_snoc ps p))

pub text_fits : (d l : ℕ) (x : List ℕ) → FitsPiece d (text l x)
text_fits d l x = (omega (arith, depth_of_text l x), omega (arith, width_of_text l x))

pub no_pieces_fit : (d : ℕ) → FitsPieces d []
no_pieces_fit d = (omega arith, omega arith)

formatted_shrinks : {n : ℕ} {ps qs : List OnePiece} {ts rest : List Lexeme} (d : ℕ) → Formatted n ps ts qs rest → FitsPieces d qs → FitsPieces d ps
formatted_shrinks d formatted_end f = f
formatted_shrinks {ps = ps} d (G.some_text {l = l} {x = x} k) f = pieces_first d ps (text l x) (formatted_shrinks d k f)
formatted_shrinks {ps = ps} d (G.some_field {f = p} q k) f = pieces_first d ps p (formatted_shrinks d k f)

-- strings
quoted_first : (d : ℕ) (b : Bool) (ps : List OnePiece) (p : OnePiece) → FitsQuoted d b (ps ++ (p ∷ [])) → FitsQuoted d b ps
quoted_first d true ps p f = pieces_first d ps p f
quoted_first d false ps p f = tt

quoted_fits : (d : ℕ) (b : Bool) (ps : List OnePiece) → FitsPieces d ps → FitsQuoted d b ps
quoted_fits d true ps f = f
quoted_fits d false ps f = tt

node_fits : (d l : ℕ) (b : Bool) (ps : List OnePiece) → 0 < d → FitsQuoted (d - 1) b ps → Fits d (string_at l b ps)
node_fits d l true ps h f = (omega (arith, f.0), f.1)
node_fits d l false ps h f = (omega arith, omega arith)

fits_node : (d l : ℕ) (b : Bool) (ps : List OnePiece) → Fits d (string_at l b ps) → FitsQuoted (d - 1) b ps
fits_node d l true ps f = (omega (arith, f.0), f.1)
fits_node d l false ps f = tt

strings_shrink : {q r : Quoted} {ts rest : List Lexeme} (d l : ℕ) → Strings q ts r rest → Fits d (string_of l r) → FitsQuoted (d - 1) q.formatted q.pieces
strings_shrink {q} d l strings_end f = fits_node d l q.formatted q.pieces f
strings_shrink {q} d l (one_string {l = m} {x = x} k) f = quoted_first (d - 1) q.formatted q.pieces (text m x) (strings_shrink d l k f)
strings_shrink {q} d l (one_f_string p k) f = quoted_fits (d - 1) q.formatted q.pieces (formatted_shrinks (d - 1) p (strings_shrink d l k f))

pub string_fits : {l : ℕ} {q r : Quoted} {ts rest : List Lexeme} (d : ℕ) → OneString l q ts r rest → FitsPieces d q.pieces → FitsQuoted d r.formatted r.pieces → FitsPieces d r.pieces
string_fits {l} {q} d (a_plain {x = x}) f g = pieces_grow d q.pieces (text l x) f (text_fits d l x)
string_fits d (a_formatted k) f g = g

ends_string : (l : ℕ) (b : Bool) (ps : List OnePiece) → ends_in_text (string_at l b ps) ≡ true
ends_string l true ps = refl
ends_string l false ps = refl

string_apart : (l : ℕ) (q : Quoted) (next : Option Lexeme) → Apart true next → Apart (ends_in_text (string_of l q)) next
string_apart l q next a = subst (λ b. Apart b next) (sym (ends_string l q.formatted q.pieces)) a

apart_string : (l : ℕ) (q : Quoted) (next : Option Lexeme) → Apart (ends_in_text (string_of l q)) next → Apart true next
apart_string l q next a = subst (λ b. Apart b next) (ends_string l q.formatted q.pieces) a

not_apart : (next : Option Lexeme) → BeginsString next → Apart true next → ⊥
not_apart (Some (str l x)) b a = a
not_apart (Some (sign l (layout FStart))) b a = a
not_apart _ b a = b

is_apart : (next : Option Lexeme) → (BeginsString next → ⊥) → Apart true next
is_apart (Some (str l x)) n = n tt
is_apart (Some (sign l (layout FStart))) n = n tt
is_apart _ n = tt

-- the token with which a string begins on this line
pub data IsQuote (k : ℕ) : Lexeme → Type 0 where
  is_str : {x : List ℕ} → IsQuote k (str k x)
  is_start : IsQuote k (sign k (layout FStart))

pub quote_next : (next : Option Lexeme) → BeginsString next → (t : Lexeme) × (next ≡ Some t) × IsQuote (line_at next) t
quote_next (Some (str l x)) b = (str l x, refl, is_str)
quote_next (Some (sign l (layout FStart))) b = (sign l (layout FStart), refl, is_start)
quote_next _ b = absurd b

quote_begins : {k : ℕ} {t : Lexeme} → IsQuote k t → BeginsString (Some t)
quote_begins is_str = tt
quote_begins is_start = tt

data WithQuote (k : ℕ) : List Lexeme → Type 0 where
  with_str : {x : List ℕ} {ts : List Lexeme} → WithQuote k (str k x ∷ ts)
  with_start : {ts : List Lexeme} → WithQuote k (sign k (layout FStart) ∷ ts)

quote_with : {k : ℕ} {t : Lexeme} → IsQuote k t → (ts : List Lexeme) → WithQuote k (t ∷ ts)
quote_with is_str ts = with_str
quote_with is_start ts = with_start

with_quote : {k : ℕ} {t : Lexeme} → IsQuote k t → (more : List Lexeme) → next_of more ≡ Some t → WithQuote k more
with_quote j [] e = cc
with_quote {k} {t} j (u ∷ us) e = let h : t ≡ u = cc in subst (λ v. WithQuote k (v ∷ us)) h (quote_with j us)

-- strings behind these, as the node that starts on line l
pub data StringRest (l : ℕ) (q : Quoted) : List Lexeme → Exp → List Lexeme → Type 0 where
  string_rest : {r : Quoted} {ts rest : List Lexeme} → Strings q ts r rest → StringRest l q ts (string_of l r) rest

-- the same, with a string on line k first
pub data Another (l k : ℕ) (q : Quoted) : List Lexeme → Exp → List Lexeme → Type 0 where
  another : {r : Quoted} {x : Exp} {ts mid rest : List Lexeme} → OneString k q ts r mid → StringRest l r mid x rest → Another l k q ts x rest

no_string : {k : ℕ} {q r : Quoted} {ts rest : List Lexeme} → ts ≡ [] → OneString k q ts r rest → ⊥
no_string e a_plain = cc
no_string e (a_formatted f) = cc

none_another : {l k : ℕ} {q : Quoted} {x : Exp} {ts rest : List Lexeme} → ts ≡ [] → Another l k q ts x rest → ⊥
none_another e (another o r) = no_string e o

-- each token of the kind begins one
shortest : {k : ℕ} {t : Lexeme} (l : ℕ) (q : Quoted) → IsQuote k t → (more : List Lexeme) × (r : Quoted) × Another l k q (t ∷ more) (string_of l r) []
shortest {k} l q (is_str {x = x}) = ([], quoted q.formatted (q.pieces ++ (text k x ∷ [])), another a_plain (string_rest strings_end))
shortest l q is_start = (sign 0 (layout FEnd) ∷ [], quoted true q.pieces, another (a_formatted formatted_end) (string_rest strings_end))

pub rest_leads : (d l k : ℕ) (q : Quoted) (t : Lexeme) → IsQuote k t → Leads (left (an_atom d) (StringRest l q)) (Another l k q) t
rest_leads d l k q t j = let s = shortest l q j in record {
  into = λ more x rest a. into a;
  out = λ more x rest e a n. out (with_quote j more e) a n;
  nothing = λ x rest a. none_another refl a;
  more = s.0;
  some = string_of l s.1;
  rest = [];
  reads = s.2;
  stops = string_apart l s.1 None tt;
}
  where
    into : {more rest : List Lexeme} {x : Exp} → Another l k q more x rest → StringRest l q more x rest
    into (another a_plain (string_rest k)) = string_rest (one_string k)
    into (another (a_formatted f) (string_rest k)) = string_rest (one_f_string f k)

    out : {more rest : List Lexeme} {x : Exp} → WithQuote k more → StringRest l q more x rest → Apart (ends_in_text x) (next_of rest) → Another l k q more x rest
    out (with_str {x = x}) (string_rest strings_end) n = absurd (not_apart (Some (str k x)) tt (apart_string l q (Some (str k x)) n))
    out with_start (string_rest strings_end) n = absurd (not_apart (Some (sign k (layout FStart))) tt (apart_string l q (Some (sign k (layout FStart))) n))
    out with_str (string_rest (one_string k)) n = another a_plain (string_rest k)
    out with_start (string_rest (one_f_string f k)) n = another (a_formatted f) (string_rest k)

pub atom_leads : (d l : ℕ) (t : Lexeme) → IsQuote l t → Leads (an_atom d) (Another l l (quoted false [])) t
atom_leads d l t j = let s = shortest l (quoted false []) j in record {
  into = λ more x rest a. into a;
  out = λ more x rest e a n. out (with_quote j more e) a;
  nothing = λ x rest a. none_another refl a;
  more = s.0;
  some = string_of l s.1;
  rest = [];
  reads = s.2;
  stops = string_apart l s.1 None tt;
}
  where
    into : {more rest : List Lexeme} {x : Exp} → Another l l (quoted false []) more x rest → Atom more x rest
    into (another a_plain (string_rest k)) = G.a_string k
    into (another (a_formatted f) (string_rest k)) = G.an_f_string f k

    out : {more rest : List Lexeme} {x : Exp} → WithQuote l more → Atom more x rest → Another l l (quoted false []) more x rest
    out with_str (G.a_string k) = another a_plain (string_rest k)
    out with_start (G.an_f_string f k) = another (a_formatted f) (string_rest k)

pub another_binds : (d l k : ℕ) (q : Quoted) → 0 < d → Binds (a_string k (d - 1) q) (StringRest l) (left (an_atom d) (Another l k q))
another_binds d l k q h = record {
  intro = λ ts y mid x rest o r. another o r;
  inv = λ ts x rest a n. out a;
  down = λ y mid x rest r f. part r f;
  finish = λ y f. ([], string_of l y, node_fits d l y.formatted y.pieces h f, λ z. string_rest strings_end);
  extend = λ y. ([], string_of l y, λ z. string_rest strings_end);
}
  where
    out : {ts rest : List Lexeme} {x : Exp} → Another l k q ts x rest → (y : Quoted) × (mid : List Lexeme) × OneString k q ts y mid × Unit {0} × StringRest l y mid x rest
    out (another o r) = (_, _, o, tt, r)

    part : {y : Quoted} {mid rest : List Lexeme} {x : Exp} → StringRest l y mid x rest → Fits d x → FitsQuoted (d - 1) y.formatted y.pieces
    part (string_rest k) f = strings_shrink d l k f

pub strings_found : (d l : ℕ) (q : Quoted) (ts : List Lexeme) → 0 < d → (BeginsString (next_of ts) → ⊥) → FitsQuoted (d - 1) q.formatted q.pieces
    → Found (left (an_atom d) (StringRest l q)) ts (string_of l q) ts
strings_found d l q ts h n f = nothing_found (left (an_atom d) (StringRest l q)) ts (string_of l q) (λ more. string_rest strings_end) (string_apart l q _ (is_apart _ n)) (node_fits d l q.formatted q.pieces h f)
    (λ more a x' rest' k s. out a k)
  where
    out : {more rest' : List Lexeme} {x' : Exp} → Alike more ts → StringRest l q more x' rest' → (x' ≡ string_of l q) × (rest' ≡ more)
    out a (string_rest strings_end) = (refl, refl)
    out (inl e) (string_rest (one_string k)) = absurd (n (subst BeginsString e tt))
    out (inl e) (string_rest (one_f_string f k)) = absurd (n (subst BeginsString e tt))
    out (inr e) (string_rest (one_string k)) = cc
    out (inr e) (string_rest (one_f_string f k)) = cc

-- one string
pub plain_found : (d : ℕ) (q : Quoted) → FitsPieces d q.pieces → (ts : List Lexeme) (l : ℕ) (x : List ℕ) → next_of ts ≡ Some (str l x)
    → Found (a_string l d q) ts (quoted q.formatted (q.pieces ++ (text l x ∷ []))) (behind ts)
plain_found d q f ts l x e = found_at (at_next ts e) record {
  front = str l x ∷ [];
  whole = refl;
  reads = λ more. a_plain;
  stops = tt;
  fits = quoted_fits d q.formatted (q.pieces ++ (text l x ∷ [])) (pieces_grow d q.pieces (text l x) f (text_fits d l x));
  only = λ more a x' rest' k n. out k;
}
  where
    out : {m : ℕ} {more rest' : List Lexeme} {x' : Quoted} → OneString l q (str m x ∷ more) x' rest' → (x' ≡ quoted q.formatted (q.pieces ++ (text m x ∷ []))) × (rest' ≡ more)
    out a_plain = (refl, refl)

pub data Inside (q : Quoted) : List Lexeme → Quoted → List Lexeme → Type 0 where
  inside : {ps : List OnePiece} {r : Quoted} {ts mid rest : List Lexeme} → Formatted 2 q.pieces ts ps mid → Through (IsSign (layout FEnd)) (Just (quoted true ps)) mid r rest → Inside q ts r rest

pub string_shifts : (k d : ℕ) (q : Quoted) → Shifts (sign k (layout FStart)) (left (a_string k d q) (Inside q)) (a_string k d q)
string_shifts k d q = record { intro = λ ts x rest i. into i; inv = λ ts x rest o n. (out o, tt); stop = λ x o n. n; up = λ x f. f; down = λ x f. f }
  where
    into : {ts rest : List Lexeme} {x : Quoted} → Inside q ts x rest → OneString k q (sign k (layout FStart) ∷ ts) x rest
    into (inside f (through is_sign just)) = a_formatted f

    out : {m : ℕ} {ts rest : List Lexeme} {x : Quoted} → OneString k q (sign m (layout FStart) ∷ ts) x rest → Inside q ts x rest
    out (a_formatted f) = inside f (through is_sign just)

pub inside_binds : (k d : ℕ) (q : Quoted) → Binds (some_formatted 2 d q.pieces) (λ ps. Through (IsSign (layout FEnd)) (Just (quoted true ps))) (left (a_string k d q) (Inside q))
inside_binds k d q = record {
  intro = λ ts y mid x rest f t. inside f t;
  inv = λ ts x rest i n. out i;
  down = λ y mid x rest t f. part t f;
  finish = λ y f. (sign 0 (layout FEnd) ∷ [], quoted true y, f, λ z. through is_sign just);
  extend = λ y. (sign 0 (layout FEnd) ∷ [], quoted true y, λ z. through is_sign just);
}
  where
    stop : {ps : List OnePiece} {mid rest : List Lexeme} {x : Quoted} → Through (IsSign (layout FEnd)) (Just (quoted true ps)) mid x rest → ends_formatted (next_of mid) ≡ true
    stop (through is_sign j) = refl

    out : {ts rest : List Lexeme} {x : Quoted} → Inside q ts x rest
        → (ps : List OnePiece) × (mid : List Lexeme) × Formatted 2 q.pieces ts ps mid × (ends_formatted (next_of mid) ≡ true) × Through (IsSign (layout FEnd)) (Just (quoted true ps)) mid x rest
    out (inside f t) = (_, _, f, stop t, t)

    part : {ps : List OnePiece} {mid rest : List Lexeme} {x : Quoted} → Through (IsSign (layout FEnd)) (Just (quoted true ps)) mid x rest → FitsQuoted d x.formatted x.pieces → FitsPieces d ps
    part (through j just) f = f

-- text and fields
pub data IsPiece : ℕ → Lexeme → Type 0 where
  is_text : {n l : ℕ} {x : List ℕ} → IsPiece n (f_text l x)
  is_open : {n l : ℕ} → IsPiece (suc n) (sign l (mark OpenBrace))

pub piece_next : (n : ℕ) (next : Option Lexeme) → BeginsPiece n next → (t : Lexeme) × (next ≡ Some t) × IsPiece n t
piece_next n (Some (f_text l x)) b = (f_text l x, refl, is_text)
piece_next (suc n) (Some (sign l (mark OpenBrace))) b = (sign l (mark OpenBrace), refl, is_open)
piece_next _ _ b = absurd b

not_ended : {n : ℕ} {t : Lexeme} → IsPiece n t → ends_formatted (Some t) ≡ true → ⊥
not_ended is_text e = cc
not_ended is_open e = cc

-- a part, and then those behind it
pub data Piecewise (n : ℕ) (ps : List OnePiece) : List Lexeme → List OnePiece → List Lexeme → Type 0 where
  piecewise : {p : OnePiece} {qs : List OnePiece} {ts mid rest : List Lexeme} → PieceOf n ts p mid → Formatted n (ps ++ (p ∷ [])) mid qs rest → Piecewise n ps ts qs rest

no_piece : {n : ℕ} {p : OnePiece} {ts rest : List Lexeme} → ts ≡ [] → PieceOf n ts p rest → ⊥
no_piece e some_text = cc
no_piece e (some_field f) = cc

none_piecewise : {n : ℕ} {ps qs : List OnePiece} {ts rest : List Lexeme} → ts ≡ [] → Piecewise n ps ts qs rest → ⊥
none_piecewise e (piecewise p k) = no_piece e p

name_field : (n l : ℕ) (z : List Lexeme) → Field n l (some_name ∷ (sign 0 (mark CloseBrace) ∷ z)) (field l some_exp None S.no_pieces) z
name_field n l z = G.a_field (G.no_yield (G.alone (G.unstarred name_expr))) no_conversion no_spec

shortest_piece : {n : ℕ} {t : Lexeme} (ps : List OnePiece) → IsPiece n t → (more : List Lexeme) × (qs : List OnePiece) × Piecewise n ps (t ∷ more) qs (sign 0 (mark CloseBrace) ∷ [])
shortest_piece ps is_text = (sign 0 (mark CloseBrace) ∷ [], _, piecewise some_text formatted_end)
shortest_piece ps (is_open {n = n} {l = l}) = (some_name ∷ (sign 0 (mark CloseBrace) ∷ (sign 0 (mark CloseBrace) ∷ [])), _, piecewise (some_field (name_field n l _)) formatted_end)

pub piece_leads : (n d : ℕ) (os ps : List OnePiece) (t : Lexeme) → IsPiece n t → Leads (left (some_formatted n d os) (Formatted n ps)) (Piecewise n ps) t
piece_leads n d os ps t j = let s = shortest_piece ps j in record {
  into = λ more x rest k. into k;
  out = λ more x rest e k n. out e k n;
  nothing = λ x rest k. none_piecewise refl k;
  more = s.0;
  some = s.1;
  rest = sign 0 (mark CloseBrace) ∷ [];
  reads = s.2;
  stops = refl;
}
  where
    into : {m : ℕ} {more rest : List Lexeme} {qs : List OnePiece} → Piecewise m ps more qs rest → Formatted m ps more qs rest
    into (piecewise some_text k) = G.some_text k
    into (piecewise (some_field f) k) = G.some_field f k

    out : {m : ℕ} {more rest : List Lexeme} {qs : List OnePiece} → next_of more ≡ Some t → Formatted m ps more qs rest → ends_formatted (next_of rest) ≡ true → Piecewise m ps more qs rest
    out e formatted_end s = absurd (not_ended j (subst (λ o. ends_formatted o ≡ true) e s))
    out e (G.some_text k) s = piecewise some_text k
    out e (G.some_field f k) s = piecewise (some_field f) k

pub piece_binds : (n d : ℕ) (os ps : List OnePiece) → FitsPieces d ps → Binds (a_piece n d) (λ p. Formatted n (ps ++ (p ∷ []))) (left (some_formatted n d os) (Piecewise n ps))
piece_binds n d os ps g = record {
  intro = λ ts y mid x rest p k. piecewise p k;
  inv = λ ts x rest k s. out k;
  down = λ y mid x rest k f. pieces_last d ps y (formatted_shrinks d k f);
  finish = λ y f. ([], ps ++ (y ∷ []), pieces_grow d ps y g f, λ z. formatted_end);
  extend = λ y. ([], ps ++ (y ∷ []), λ z. formatted_end);
}
  where
    out : {ts rest : List Lexeme} {qs : List OnePiece} → Piecewise n ps ts qs rest → (y : OnePiece) × (mid : List Lexeme) × PieceOf n ts y mid × Unit {0} × Formatted n (ps ++ (y ∷ [])) mid qs rest
    out (piecewise p k) = (_, _, p, tt, k)

pub formatted_found : (n d : ℕ) (os ps : List OnePiece) (ts : List Lexeme) → (BeginsPiece n (next_of ts) → ⊥) → ends_formatted (next_of ts) ≡ true → FitsPieces d ps
    → Found (left (some_formatted n d os) (Formatted n ps)) ts ps ts
formatted_found n d os ps ts b e f = nothing_found (left (some_formatted n d os) (Formatted n ps)) ts ps (λ more. formatted_end) e f (λ more a x' rest' k s. out b a k)
  where
    out : {m : ℕ} {more rest' : List Lexeme} {qs : List OnePiece} → (BeginsPiece m (next_of ts) → ⊥) → Alike more ts → Formatted m ps more qs rest' → (qs ≡ ps) × (rest' ≡ more)
    out b a formatted_end = (refl, refl)
    out {m} b (inl e) (G.some_text k) = absurd (b (subst (BeginsPiece m) e tt))
    out {m} b (inl e) (G.some_field q k) = absurd (b (subst (BeginsPiece m) e tt))
    out b (inr e) (G.some_text k) = cc
    out b (inr e) (G.some_field q k) = cc

pub formatted_bad : (n d : ℕ) (os ps : List OnePiece) (ts : List Lexeme) → (BeginsPiece n (next_of ts) → ⊥) → ends_formatted (next_of ts) ≡ false → FitsPieces d ps
    → Refused (left (some_formatted n d os) (Formatted n ps)) false ts ts
formatted_bad n d os ps ts b e f = bad_refused (left (some_formatted n d os) (Formatted n ps)) ts (λ more a x' rest' k s. out b a k s) [] ps f (λ z. formatted_end)
  where
    here : {more : List Lexeme} → Alike more ts → ends_formatted (next_of more) ≡ true → ⊥
    here (inl h) s = let k : false ≡ true = sym e ∙ ap ends_formatted (sym h) ∙ s in cc
    here (inr h) s = let k : false ≡ true = ap (λ us. ends_formatted (next_of us)) (sym h) ∙ s in cc

    out : {m : ℕ} {more rest' : List Lexeme} {qs : List OnePiece} → (BeginsPiece m (next_of ts) → ⊥) → Alike more ts → Formatted m ps more qs rest' → ends_formatted (next_of rest') ≡ true → ⊥
    out b a formatted_end s = here a s
    out {m} b (inl h) (G.some_text k) s = b (subst (BeginsPiece m) h tt)
    out {m} b (inl h) (G.some_field q k) s = b (subst (BeginsPiece m) h tt)
    out b (inr h) (G.some_text k) s = cc
    out b (inr h) (G.some_field q k) s = cc

-- one of them
pub literal_found : (n d : ℕ) (ts : List Lexeme) (l : ℕ) (x : List ℕ) → next_of ts ≡ Some (f_text l x) → Found (a_piece n d) ts (text l x) (behind ts)
literal_found n d ts l x e = found_at (at_next ts e) record {
  front = f_text l x ∷ [];
  whole = refl;
  reads = λ more. some_text;
  stops = tt;
  fits = text_fits d l x;
  only = λ more a x' rest' k s. out k;
}
  where
    out : {m : ℕ} {more rest' : List Lexeme} {x' : OnePiece} → PieceOf m (f_text l x ∷ more) x' rest' → (x' ≡ text l x) × (rest' ≡ more)
    out some_text = (refl, refl)

-- a piece that is no text is a field, where one may stand
pub literal_next : (n : ℕ) (next : Option Lexeme) → BeginsPiece n next → sign_at next ≢ Some (mark OpenBrace) → IsLiteral next
literal_next n (Some (f_text l x)) b k = tt
literal_next (suc n) (Some (sign l (mark OpenBrace))) b k = absurd (k refl)
literal_next _ _ b k = absurd b

pub may_open : (n l : ℕ) → BeginsPiece n (Some (sign l (mark OpenBrace))) → n ≡ suc (n - 1)
may_open zero l b = absurd b
may_open (suc n) l b = omega arith

pub field_shifts : (n m d l : ℕ) → n ≡ suc m → Shifts (sign l (mark OpenBrace)) (P.a_field m l d) (a_piece n d)
field_shifts n m d l h = subst (λ v. Shifts (sign l (mark OpenBrace)) (P.a_field m l d) (a_piece v d)) (sym h) record {
  intro = λ ts x rest k. some_field k;
  inv = λ ts x rest k s. (out k, tt);
  stop = λ x o s. tt;
  up = λ x f. f;
  down = λ x f. f;
}
  where
    out : {i j : ℕ} {ts rest : List Lexeme} {x : OnePiece} → PieceOf (suc i) (sign j (mark OpenBrace) ∷ ts) x rest → Field i j ts x rest
    out (some_field k) = k

field_deep : {n l : ℕ} {p : OnePiece} {ts rest : List Lexeme} → Field n l ts p rest → FitsPiece 0 p → ⊥
field_deep (G.a_field {e = e} v c s) f = omega (arith, f.0, depth_some e)

pub field_over : (n m l : ℕ) (ts : List Lexeme) → n ≡ suc m → next_of ts ≡ Some (sign l (mark OpenBrace)) → Refused (a_piece n 0) true ts ts
field_over n m l ts h e = subst (λ v. Refused (a_piece v 0) true ts ts) (sym h)
    (over_refused_at (a_piece (suc m) 0) (sign l (mark OpenBrace)) ts e (λ more x' rest' k s f. out k f)
    (some_name ∷ (sign 0 (mark CloseBrace) ∷ [])) (field l some_exp None S.no_pieces) (λ z. some_field (name_field m l z))
    (f_text 0 [] ∷ []) (text 0 []) (text_fits 0 0 []) (λ z. some_text))
  where
    out : {i j : ℕ} {more rest' : List Lexeme} {x' : OnePiece} → PieceOf (suc i) (sign j (mark OpenBrace) ∷ more) x' rest' → FitsPiece 0 x' → ⊥
    out (some_field k) f = field_deep k f

-- a field
pub data AfterConversion (n l : ℕ) (e : Exp) (c : Option Conversion) : List Lexeme → OnePiece → List Lexeme → Type 0 where
  after_conversion : {ps : List OnePiece} {p : OnePiece} {ts us rest : List Lexeme} → Specified n ts ps us → Through (IsSign (mark CloseBrace)) (Just (field l e c (pieces_of ps))) us p rest
      → AfterConversion n l e c ts p rest

pub data AfterValue (n l : ℕ) (e : Exp) : List Lexeme → OnePiece → List Lexeme → Type 0 where
  after_value : {c : Option Conversion} {p : OnePiece} {ts mid rest : List Lexeme} → Converted ts c mid → AfterConversion n l e c mid p rest → AfterValue n l e ts p rest

pub field_fits : (d l : ℕ) (e : Exp) (c : Option Conversion) (ps : List OnePiece) → Fits d e → FitsPieces d ps → FitsPiece d (field l e c (pieces_of ps))
field_fits d l e c ps f g = (omega (arith, f.0, g.0), omega (arith, f.1, g.1))

pub value_binds : (n l d : ℕ) → Binds (a_value d) (AfterValue n l) (P.a_field n l d)
value_binds n l d = record {
  intro = λ ts y mid x rest v k. into v k;
  inv = λ ts x rest k s. out k;
  down = λ y mid x rest k f. part k f;
  finish = λ y f. (sign 0 (mark CloseBrace) ∷ [], field l y None S.no_pieces, field_fits d l y None [] f (no_pieces_fit d), λ z. after_value no_conversion (after_conversion no_spec (through is_sign just)));
  extend = λ y. (sign 0 (mark CloseBrace) ∷ [], field l y None S.no_pieces, λ z. after_value no_conversion (after_conversion no_spec (through is_sign just)));
}
  where
    into : {ts mid rest : List Lexeme} {y : Exp} {x : OnePiece} → Value ts y mid → AfterValue n l y mid x rest → Field n l ts x rest
    into v (after_value c (after_conversion s (through is_sign just))) = G.a_field v c s

    stop : {m : ℕ} {us mid rest : List Lexeme} {c : Option Conversion} {ps : List OnePiece} → Converted us c mid → Specified n mid ps (sign m (mark CloseBrace) ∷ rest) → ends_items Whole (next_of us) ≡ true
    stop (G.a_conversion h) s = refl
    stop no_conversion no_spec = refl
    stop no_conversion (G.a_spec f) = refl

    out : {ts rest : List Lexeme} {x : OnePiece} → Field n l ts x rest → (y : Exp) × (mid : List Lexeme) × Value ts y mid × (ends_items Whole (next_of mid) ≡ true) × AfterValue n l y mid x rest
    out (G.a_field v c s) = (_, _, v, stop c s, after_value c (after_conversion s (through is_sign just)))

    part : {mid rest : List Lexeme} {y : Exp} {x : OnePiece} → AfterValue n l y mid x rest → FitsPiece d x → Fits d y
    part (after_value c (after_conversion s (through j just))) f = (omega (arith, f.0), omega (arith, f.1))

pub conversion_binds : (n l d : ℕ) (e : Exp) → Fits d e → Binds a_conversion (AfterConversion n l e) (left (P.a_field n l d) (AfterValue n l e))
conversion_binds n l d e g = record {
  intro = λ ts y mid x rest c k. after_value c k;
  inv = λ ts x rest k s. out k;
  down = λ y mid x rest k f. tt;
  finish = λ y f. (sign 0 (mark CloseBrace) ∷ [], field l e y S.no_pieces, field_fits d l e y [] g (no_pieces_fit d), λ z. after_conversion no_spec (through is_sign just));
  extend = λ y. (sign 0 (mark CloseBrace) ∷ [], field l e y S.no_pieces, λ z. after_conversion no_spec (through is_sign just));
}
  where
    stop : {c : Option Conversion} {us mid rest : List Lexeme} {x : OnePiece} → Converted us c mid → AfterConversion n l e c mid x rest → StopsConversion c (next_of mid)
    stop (G.a_conversion h) k = tt
    stop no_conversion (after_conversion no_spec (through is_sign j)) = λ h. cc
    stop no_conversion (after_conversion (G.a_spec f) t) = λ h. cc

    out : {ts rest : List Lexeme} {x : OnePiece} → AfterValue n l e ts x rest → (y : Option Conversion) × (mid : List Lexeme) × Converted ts y mid × StopsConversion y (next_of mid) × AfterConversion n l e y mid x rest
    out (after_value c k) = (_, _, c, stop c k, k)

pub spec_binds : (n l d : ℕ) (e : Exp) (c : Option Conversion) → Fits d e
    → Binds (a_spec n d) (λ ps. Through (IsSign (mark CloseBrace)) (Just (field l e c (pieces_of ps)))) (left (P.a_field n l d) (AfterConversion n l e c))
spec_binds n l d e c g = record {
  intro = λ ts y mid x rest s k. after_conversion s k;
  inv = λ ts x rest k s. out k;
  down = λ y mid x rest k f. part y k f;
  finish = λ y f. (sign 0 (mark CloseBrace) ∷ [], field l e c (pieces_of y), field_fits d l e c y g f, λ z. through is_sign just);
  extend = λ y. (sign 0 (mark CloseBrace) ∷ [], field l e c (pieces_of y), λ z. through is_sign just);
}
  where
    stop : (ps : List OnePiece) {mid rest : List Lexeme} {x : OnePiece} → Through (IsSign (mark CloseBrace)) (Just (field l e c (pieces_of ps))) mid x rest → ends_formatted (next_of mid) ≡ true
    stop ps (through is_sign j) = refl

    out : {ts rest : List Lexeme} {x : OnePiece} → AfterConversion n l e c ts x rest
        → (y : List OnePiece) × (mid : List Lexeme) × Specified n ts y mid × (ends_formatted (next_of mid) ≡ true) × Through (IsSign (mark CloseBrace)) (Just (field l e c (pieces_of y))) mid x rest
    out (after_conversion {ps = ps} s t) = (ps, _, s, stop ps t, t)

    part : (ps : List OnePiece) {mid rest : List Lexeme} {x : OnePiece} → Through (IsSign (mark CloseBrace)) (Just (field l e c (pieces_of ps))) mid x rest → FitsPiece d x → FitsPieces d ps
    part ps (through j just) f = (omega (arith, f.0), omega (arith, f.1))

-- conversions
pub no_conversion_found : (ts : List Lexeme) → sign_at (next_of ts) ≢ Some (mark Exclamation) → Found a_conversion ts None ts
no_conversion_found ts n = nothing_found a_conversion ts None (λ more. no_conversion) n tt (λ more a x' rest' k s. out a k)
  where
    out : {more rest' : List Lexeme} {c : Option Conversion} → Alike more ts → Converted more c rest' → (c ≡ None) × (rest' ≡ more)
    out a no_conversion = (refl, refl)
    out (inl e) (G.a_conversion h) = absurd (n (ap sign_at (sym e)))
    out (inr e) (G.a_conversion h) = cc

pub conversion_shifts : (l : ℕ) → Shifts (sign l (mark Exclamation)) (left a_conversion (Made a_conversion_name (λ c. Some c))) a_conversion
conversion_shifts l = record { intro = λ ts x rest k. into k; inv = λ ts x rest k s. (out k s, s); stop = λ x o s. s; up = λ x f. tt; down = λ x f. tt }
  where
    into : {ts rest : List Lexeme} {c : Option Conversion} → Made a_conversion_name (λ c. Some c) ts c rest → Converted (sign l (mark Exclamation) ∷ ts) c rest
    into (made (conversion_name h)) = G.a_conversion h

    out : {ts rest : List Lexeme} {c : Option Conversion} → Converted (sign l (mark Exclamation) ∷ ts) c rest → StopsConversion c (next_of rest) → Made a_conversion_name (λ c. Some c) ts c rest
    out no_conversion s = absurd (s refl)
    out (G.a_conversion h) s = made (conversion_name h)

pub conversion_made : Binds a_conversion_name (λ c. Just (Some c)) (left a_conversion (Made a_conversion_name (λ c. Some c)))
conversion_made = made_binds a_conversion a_conversion_name (λ c. Some c) (λ b o s. tt) (λ b f. tt) (λ b f. tt)

pub name_converts : (ts : List Lexeme) (l : ℕ) (x : List ℕ) (c : Conversion) → next_of ts ≡ Some (name l x) → conversion_of x ≡ Some c → Found a_conversion_name ts c (behind ts)
name_converts ts l x c e h = found_at (at_next ts e) record {
  front = name l x ∷ [];
  whole = refl;
  reads = λ more. conversion_name h;
  stops = tt;
  fits = tt;
  only = λ more a x' rest' k s. out k;
}
  where
    out : {more rest' : List Lexeme} {d : Conversion} → ConversionName (name l x ∷ more) d rest' → (d ≡ c) × (rest' ≡ more)
    out (conversion_name g) = let k = sym g ∙ h in (cc, refl)

-- the name of a conversion is next
abbrev pub IsConversion : Option Lexeme → Type 0
IsConversion next = (l : ℕ) × (x : List ℕ) × (c : Conversion) × (next ≡ Some (name l x)) × (conversion_of x ≡ Some c)

pub no_conversion_name : (ts : List Lexeme) → (IsConversion (next_of ts) → ⊥) → Refused a_conversion_name false ts ts
no_conversion_name ts n = bad_refused a_conversion_name ts (λ more a x' rest' k s. out a k) (name 0 (114 ∷ []) ∷ []) Repr tt (λ z. conversion_name refl)
  where
    out : {more rest' : List Lexeme} {c : Conversion} → Alike more ts → ConversionName more c rest' → ⊥
    out (inl e) (conversion_name h) = n (_, _, _, sym e, h)
    out (inr e) (conversion_name h) = cc

-- formats
pub spec_shifts : (n d l : ℕ) → Shifts (sign l (mark Colon)) (some_formatted n d []) (a_spec n d)
spec_shifts n d l = record { intro = λ ts x rest k. G.a_spec k; inv = λ ts x rest k s. (out k s, s); stop = λ x o s. s; up = λ x f. f; down = λ x f. f }
  where
    out : {ts rest : List Lexeme} {ps : List OnePiece} → Specified n (sign l (mark Colon) ∷ ts) ps rest → ends_formatted (next_of rest) ≡ true → Formatted n [] ts ps rest
    out no_spec s = cc
    out (G.a_spec k) s = k

pub no_spec_found : (n d : ℕ) (ts : List Lexeme) → sign_at (next_of ts) ≢ Some (mark Colon) → ends_formatted (next_of ts) ≡ true → Found (a_spec n d) ts [] ts
no_spec_found n d ts h e = nothing_found (a_spec n d) ts [] (λ more. no_spec) e (no_pieces_fit d) (λ more a x' rest' k s. out a k)
  where
    out : {m : ℕ} {more rest' : List Lexeme} {ps : List OnePiece} → Alike more ts → Specified m more ps rest' → (ps ≡ []) × (rest' ≡ more)
    out a no_spec = (refl, refl)
    out (inl e) (G.a_spec k) = absurd (h (ap sign_at (sym e)))
    out (inr e) (G.a_spec k) = cc

pub spec_bad : (n d : ℕ) (ts : List Lexeme) → sign_at (next_of ts) ≢ Some (mark Colon) → ends_formatted (next_of ts) ≡ false → Refused (a_spec n d) false ts ts
spec_bad n d ts h e = bad_refused (a_spec n d) ts (λ more a x' rest' k s. out a k s) [] [] (no_pieces_fit d) (λ z. no_spec)
  where
    here : {more : List Lexeme} → Alike more ts → ends_formatted (next_of more) ≡ true → ⊥
    here (inl i) s = let k : false ≡ true = sym e ∙ ap ends_formatted (sym i) ∙ s in cc
    here (inr i) s = let k : false ≡ true = ap (λ us. ends_formatted (next_of us)) (sym i) ∙ s in cc

    out : {m : ℕ} {more rest' : List Lexeme} {ps : List OnePiece} → Alike more ts → Specified m more ps rest' → ends_formatted (next_of rest') ≡ true → ⊥
    out a no_spec s = here a s
    out (inl i) (G.a_spec k) s = h (ap sign_at (sym i))
    out (inr i) (G.a_spec k) s = cc

-- what the code asks of the next token
pub start_begins : (next : Option Lexeme) → sign_at next ≡ Some (layout FStart) → BeginsString next
start_begins next e = let n = signed_next next e in subst BeginsString (sym n.1) tt

pub string_sign : (next : Option Lexeme) → BeginsString next → (s : Sign) → sign_at next ≡ Some s → s ≡ layout FStart
string_sign (Some (str l x)) b s e = cc
string_sign (Some (sign l (layout FStart))) b s e = cc
string_sign _ b s e = absurd b

pub open_begins : (n : ℕ) (next : Option Lexeme) → 0 < n → sign_at next ≡ Some (mark OpenBrace) → BeginsPiece n next
open_begins zero next h e = absurd (omega arith)
open_begins (suc n) next h e = let k = signed_next next e in subst (BeginsPiece (suc n)) (sym k.1) tt

pub piece_sign : (n : ℕ) (next : Option Lexeme) → BeginsPiece n next → (s : Sign) → sign_at next ≡ Some s → (0 < n) × (s ≡ mark OpenBrace)
piece_sign n (Some (f_text l x)) b s e = cc
piece_sign (suc n) (Some (sign l (mark OpenBrace))) b s e = (omega arith, cc)
piece_sign _ _ b s e = absurd b

pub plain_piece : (n : ℕ) (next : Option Lexeme) → sign_at next ≡ None → BeginsPiece n next → IsLiteral next
plain_piece n next e b = literal_next n next b (λ k. let h : None ≡ Some (mark OpenBrace) = sym e ∙ k in cc)

pub literal_piece : (n : ℕ) (next : Option Lexeme) → IsLiteral next → BeginsPiece n next
literal_piece n (Some (f_text l x)) b = tt
literal_piece n _ b = absurd b

literal_signed : (l : ℕ) (s : Option Sign) → IsLiteral (Some (signed l s)) → ⊥
literal_signed l None b = b
literal_signed l (Some s) b = b

pub literal_kind : (l : ℕ) (k : TokenKind) → ((x : List ℕ) → k ≡ kind.FText x → ⊥) → IsLiteral (Some (lexeme_at l k)) → ⊥
literal_kind l (kind.FText x) n b = n x refl
literal_kind l (kind.Sign x) n b = literal_signed l (spelled x) b
literal_kind l _ n b = b

-- a name is next
abbrev pub HasName : Option Lexeme → Type 0
HasName (Some (name l x)) = Unit {0}
HasName _ = ⊥

pub conversion_named : (next : Option Lexeme) → IsConversion next → HasName next
conversion_named next (l, x, c, e, h) = subst HasName (sym e) tt

named_signed : (l : ℕ) (s : Option Sign) → HasName (Some (signed l s)) → ⊥
named_signed l None b = b
named_signed l (Some s) b = b

pub named_kind : (l : ℕ) (k : TokenKind) → ((x : List ℕ) → k ≡ kind.Name x → ⊥) → HasName (Some (lexeme_at l k)) → ⊥
named_kind l (kind.Name x) n b = n x refl
named_kind l (kind.Sign x) n b = named_signed l (spelled x) b
named_kind l _ n b = b

pub not_converted : (l : ℕ) (x : List ℕ) → None ≡ conversion_of x → IsConversion (Some (name l x)) → ⊥
not_converted l x n (m, y, c, e, h) =
    let k : x ≡ y = cc in
    let f : None ≡ Some c = n ∙ ap conversion_of k ∙ h in cc

-- the steps of the readers
pub quotes_none : {b : Bool} {ps : List OnePiece} → b ≡ false → ps ≡ [] → quoted b ps ≡ quoted false []
quotes_none h k = rw (h, k) refl

pub none_fit : (d : ℕ) {ps : List OnePiece} → ps ≡ [] → FitsPieces d ps
none_fit d h = rw h (no_pieces_fit d)

pub begun : (d : ℕ) (ts : List Lexeme) (q : Quoted) → q ≡ quoted false [] → BeginsString (next_of ts)
    → Carries (an_atom d) ts (left (an_atom d) (Another (line_at (next_of ts)) (line_at (next_of ts)) q)) ts
begun d ts q h b = let n = quote_next (next_of ts) b in
    subst (λ v. Carries (an_atom d) ts (left (an_atom d) (Another (line_at (next_of ts)) (line_at (next_of ts)) v)) ts) (sym h) (lead_carries (atom_leads d (line_at (next_of ts)) n.0 n.2) n.1)

pub again : (d l : ℕ) (q : Quoted) (ts : List Lexeme) → BeginsString (next_of ts) → Carries (left (an_atom d) (StringRest l q)) ts (left (an_atom d) (Another l (line_at (next_of ts)) q)) ts
again d l q ts b = let n = quote_next (next_of ts) b in lead_carries (rest_leads d l (line_at (next_of ts)) q n.0 n.2) n.1

pub one_more : (n d : ℕ) (os ps : List OnePiece) (ts : List Lexeme) → BeginsPiece n (next_of ts)
    → Carries (left (some_formatted n d os) (Formatted n ps)) ts (left (some_formatted n d os) (Piecewise n ps)) ts
one_more n d os ps ts b = let p = piece_next n (next_of ts) b in lead_carries (piece_leads n d os ps p.0 p.2) p.1

pub string_shorter : {l d : ℕ} {q r : Quoted} {ts rest : List Lexeme} → Found (a_string l d q) ts r rest → length rest < length ts
string_shorter {l} {d} {q} {r} {ts} {rest} f = go f.front f.whole (f.reads [])
  where
    go : (front : List Lexeme) → ts ≡ front ++ rest → OneString l q (front ++ []) r [] → length rest < length ts
    go [] w k = absurd (no_string refl k)
    go (u ∷ us) w k = omega (arith, ap length w, length-append us rest)

pub piece_shorter : {n d : ℕ} {p : OnePiece} {ts rest : List Lexeme} → Found (a_piece n d) ts p rest → length rest < length ts
piece_shorter {n} {d} {p} {ts} {rest} f = go f.front f.whole (f.reads [])
  where
    go : (front : List Lexeme) → ts ≡ front ++ rest → PieceOf n (front ++ []) p [] → length rest < length ts
    go [] w k = absurd (no_piece refl k)
    go (u ∷ us) w k = omega (arith, ap length w, length-append us rest)
