-- Literals: how much of a text they take, and that a place has one of them at most.
use Rattle.std.proofs.Common.{◌≡◌, ℕ, zero, suc, ◌≤◌, ◌<◌, List, [], ◌∷◌, ◌++◌, Bool, true, false, Option, Some, None, refl, sym, ◌∙◌, ap, subst, arith, inl, inr, ◌⊎◌, length, take, drop}
use Rattle.std.specs.Prelude.{◌^◌, not, codes, nat_lt, ◌==◌, ◌&&◌, ◌||◌, if◌then◌else◌, is_some}
use Rattle.std.specs.Char.{is_digit}
use Rattle.std.proofs.lemmas.Bool.{both_ways, and_left}
use Rattle.pt_base.specs.declared.numbers.Line.{Line}
use Rattle.pt_literals.specs.declared.source.Spot.{Spot}
use Rattle.pt_literals.specs.declared.source.TextEnd.{TextEnd}
use Rattle.pt_literals.specs.declared.strings.Chars.{Chars}
use Rattle.pt_literals.specs.declared.strings.Delimiter.{Delimiter}
use Rattle.pt_literals.specs.declared.strings.StringKind.{StringKind}
use Rattle.pt_literals.specs.declared.strings.StringKind.TheVariants.{Plain, Raw, Bytes, Format, RawFormat}
use Rattle.pt_literals.specs.declared.modes.Mode.{Mode}
use Rattle.pt_literals.specs.declared.modes.Mode.TheVariants as mode
use Rattle.pt_literals.specs.declared.modes.Part.{Part}
use Rattle.pt_literals.specs.declared.modes.Part.TheVariants as part
use Rattle.pt_literals.specs.declared.token.Lexeme.{Lexeme}
use Rattle.pt_literals.specs.declared.token.LexErr.{LexErr}
use Rattle.pt_literals.specs.declared.token.LexErr.TheVariants as fault
use Rattle.pt_literals.specs.Source.{ends_line, behind_feed, behind_line_end}
use Rattle.pt_literals.specs.Numbers.{are_digits, value_from, radix_of, behind_one, behind_prefix, digits_len, makes_float, is_fraction}
use Rattle.pt_literals.specs.Literals.{Literal, no_literal, faulty, known, holds, or_else, within, number_by, number_behind, number, number_at, behind_quote, behind_another, behind_two, behind_three, closes, begun, delimited_by, delimited, prefixed, is_quote, is_either, kind_by, raw_kind_by, kind_by_two, string_behind_two, string_behind_one, string_at, is_name_a, begins_by, conversion, field_sign, field_sign_at, is_brace, is_single, ended_or, text_at, spec_at, literal, sign}
use Rattle.pt_literals.specs.Strings.{listed, Piece, takes, fails, simple, is_surrogate, coded, octal_len, octal, are_hex, hex, by_letter, escaped, escape, raw_escape, piece_in, piece, stops_at, stops_text, stops_spec, ends, Inside, closed, more}
use Rattle.pt_lexer.specs.Faults.{number_of, or_line, string_line, line_of_part, broken_off, InsideFails, at_text_end, here, behind, LiteralFails, at_once, in_string}
use Rattle.pt_lexer.specs.Lines.{at_of, line_of, Nest, mode_of, has_words, outside}
use Rattle.pt_lexer.specs.Progress.{Rises, IsBeforeLimit}

-- The text from a place on, or from behind some of it.
pub data Tail : List Spot → List Spot → Type 0 where
  whole : {ss : List Spot} → Tail ss ss
  past : {s : Spot} {ss rest : List Spot} → Tail ss rest → Tail (s ∷ ss) rest

pub data Behind : List Spot → List Spot → Type 0 where
  beyond : {s : Spot} {ss rest : List Spot} → Tail ss rest → Behind (s ∷ ss) rest

pub tail_tail : {a b c : List Spot} → Tail a b → Tail b c → Tail a c
tail_tail whole u = u
tail_tail (past t) u = past (tail_tail t u)

pub behind_tail : {a b c : List Spot} → Behind a b → Tail b c → Behind a c
behind_tail (beyond t) u = beyond (tail_tail t u)

pub tail_behind : {a b c : List Spot} → Tail a b → Behind b c → Behind a c
tail_behind whole b = b
tail_behind (past t) b = beyond (one_more t b)
  where
    one_more : {a b c : List Spot} → Tail a b → Behind b c → Tail a c
    one_more whole (beyond u) = past u
    one_more (past t) u = past (one_more t u)

pub is_tail : {a b : List Spot} → Behind a b → Tail a b
is_tail (beyond t) = past t

pub front_tail : (front rest : List Spot) → Tail (front ++ rest) rest
front_tail [] rest = whole
front_tail (s ∷ front) rest = past (front_tail front rest)

drop_tail : (n : ℕ) (ss : List Spot) → Tail ss (drop n ss)
drop_tail zero ss = whole
drop_tail (suc n) [] = whole
drop_tail (suc n) (s ∷ ss) = past (drop_tail n ss)

pub tail_within : {a b : List Spot} → Tail a b → length b ≤ length a
tail_within whole = omega arith
tail_within (past t) = let h = tail_within t in omega arith

pub behind_shorter : {a b : List Spot} → Behind a b → length b < length a
behind_shorter (beyond t) = let h = tail_within t in omega arith

pub tail_rises : (end : TextEnd) {a b : List Spot} → Tail a b → Rises end a → (at_of end a ≤ at_of end b) × Rises end b
tail_rises end whole r = (omega arith, r)
tail_rises end (past t) r = let h = tail_rises end t r.1 in (omega (arith, r.0, h.0), h.1)

pub behind_rises : (end : TextEnd) {a b : List Spot} → Behind a b → Rises end a → (at_of end a < at_of end b) × Rises end b
behind_rises end (beyond t) r = let h = tail_rises end t r.1 in (omega (arith, r.0, h.0), h.1)

-- one of two values
either : {A : Type 0} (P : A → Type 0) (b : Bool) {x y : A} → P x → P y → P (if b then x else y)
either P true p q = p
either P false p q = q

either_if : {A : Type 0} (P : A → Type 0) (b : Bool) {x y : A} → (b ≡ true → P x) → P y → P (if b then x else y)
either_if P true p q = p refl
either_if P false p q = q

closed_or_open : {o : Option (List Spot)} {a : List Spot} → o ≡ Some a → o ≡ None → ⊥
closed_or_open h k = cc

-- pieces of strings
abbrev TakesTail : List Spot → Piece → Type 0
TakesTail ss (takes cs rest) = Tail ss rest
TakesTail ss (fails e) = Unit {0}

behind_feed_tail : (ss : List Spot) → Tail ss (behind_feed ss)
behind_feed_tail [] = whole
behind_feed_tail (s ∷ ss) = either (Tail (s ∷ ss)) (s.char == 10) (past whole) whole

line_end_tail : (s : Spot) (ss : List Spot) → Tail ss (behind_line_end (s ∷ ss))
line_end_tail s ss = either (Tail ss) (s.char == 13) (behind_feed_tail ss) whole

coded_tail : (s : Spot) (n : ℕ) (ss rest : List Spot) → Tail ss rest → TakesTail ss (coded s n rest)
coded_tail s n ss rest t = either (TakesTail ss) (nat_lt n 0x110000) (either (TakesTail ss) (is_surrogate n) tt t) tt

octal_tail : (s : Spot) (ss : List Spot) → TakesTail ss (octal s ss)
octal_tail s ss = coded_tail s (value_from 8 0 (take (octal_len ss) ss)) ss (drop (octal_len ss) ss) (drop_tail (octal_len ss) ss)

hex_tail : (s : Spot) (n : ℕ) (ss : List Spot) → TakesTail ss (hex s n ss)
hex_tail s n ss = either (TakesTail ss) (are_hex n (take n ss)) (coded_tail s (value_from 16 0 (take n ss)) ss (drop n ss) (drop_tail n ss)) tt

takes_past : (s : Spot) (ss : List Spot) (p : Piece) → TakesTail ss p → TakesTail (s ∷ ss) p
takes_past s ss (takes cs rest) t = past t
takes_past s ss (fails e) t = tt

letter_tail : (s t : Spot) (us : List Spot) → TakesTail (t ∷ us) (by_letter s t us)
letter_tail s t us =
    either (TakesTail (t ∷ us)) (t.char == 120) (takes_past t us (hex s 2 us) (hex_tail s 2 us))
    (either (TakesTail (t ∷ us)) (t.char == 117) (takes_past t us (hex s 4 us) (hex_tail s 4 us))
    (either (TakesTail (t ∷ us)) (t.char == 85) (takes_past t us (hex s 8 us) (hex_tail s 8 us))
    (either (TakesTail (t ∷ us)) (t.char == 78) tt whole)))

escaped_tail : (o : Option ℕ) (s t : Spot) (us : List Spot) → TakesTail (t ∷ us) (escaped o s t us)
escaped_tail (Some c) s t us = past whole
escaped_tail None s t us = either (TakesTail (t ∷ us)) (is_digit t.char 8) (octal_tail s (t ∷ us)) (letter_tail s t us)

escape_tail : (s : Spot) (ss : List Spot) → TakesTail ss (escape s ss)
escape_tail s [] = whole
escape_tail s (t ∷ us) = either (TakesTail (t ∷ us)) (ends_line t.char) (past (line_end_tail t us)) (escaped_tail (simple t.char) s t us)

raw_tail : (f : Bool) (ss : List Spot) → TakesTail ss (raw_escape f ss)
raw_tail f [] = whole
raw_tail f (t ∷ us) =
    either (TakesTail (t ∷ us)) (ends_line t.char) (past (line_end_tail t us)) (either (TakesTail (t ∷ us)) (f && is_brace t.char) whole (past whole))

piece_in_tail : (f : Bool) (d : Delimiter) (s : Spot) (ss : List Spot) → TakesTail ss (piece_in f d s ss)
piece_in_tail f d s ss =
    either (TakesTail ss) (s.char == 92) (either (TakesTail ss) d.is_raw (raw_tail f ss) (escape_tail s ss))
    (either (TakesTail ss) (ends_line s.char) (either (TakesTail ss) d.is_triple (line_end_tail s ss) tt) whole)

one_tail : (ss : List Spot) → Tail ss (behind_one ss)
one_tail [] = whole
one_tail (s ∷ ss) = past whole

piece_tail : (p : Part) (s : Spot) (ss : List Spot) → TakesTail ss (piece p s ss)
piece_tail (part.Whole d) s ss = piece_in_tail false d s ss
piece_tail (part.Text d) s ss = either (TakesTail ss) (is_brace s.char) (one_tail ss) (piece_in_tail true d s ss)
piece_tail (part.Spec d) s ss = piece_in_tail true d s ss

pub piece_behind : (p : Part) (s : Spot) (ss : List Spot) {rest : List Spot} {cs : Chars} → piece p s ss ≡ takes cs rest → Behind (s ∷ ss) rest
piece_behind p s ss e = let t = subst (TakesTail ss) e (piece_tail p s ss) in beyond t

-- quotes
abbrev SomeBehind : List Spot → Option (List Spot) → Type 0
SomeBehind ss None = Unit {0}
SomeBehind ss (Some rest) = Behind ss rest

quote_behind : (q : ℕ) (ss : List Spot) → SomeBehind ss (behind_quote q ss)
quote_behind q [] = tt
quote_behind q (s ∷ ss) = either (SomeBehind (s ∷ ss)) (s.char == q) (beyond whole) tt

further : (ss mid : List Spot) (o : Option (List Spot)) → Behind ss mid → SomeBehind mid o → SomeBehind ss o
further ss mid None b s = tt
further ss mid (Some rest) b s = behind_tail b (is_tail s)

another_behind : (q : ℕ) (ss : List Spot) (o : Option (List Spot)) → SomeBehind ss o → SomeBehind ss (behind_another q o)
another_behind q ss None b = tt
another_behind q ss (Some mid) b = further ss mid (behind_quote q mid) b (quote_behind q mid)

two_behind : (q : ℕ) (ss : List Spot) → SomeBehind ss (behind_two q ss)
two_behind q ss = another_behind q ss (behind_quote q ss) (quote_behind q ss)

three_behind : (q : ℕ) (ss : List Spot) → SomeBehind ss (behind_three q ss)
three_behind q ss = another_behind q ss (behind_two q ss) (two_behind q ss)

closes_behind : (d : Delimiter) (ss : List Spot) → SomeBehind ss (closes d ss)
closes_behind d ss = either (SomeBehind ss) d.is_triple (three_behind d.quote ss) (quote_behind d.quote ss)

abbrev SomeTail : List Spot → Option (List Spot) → Type 0
SomeTail ss None = Unit {0}
SomeTail ss (Some rest) = Tail ss rest

some_tail : (ss : List Spot) (o : Option (List Spot)) → SomeBehind ss o → SomeTail ss o
some_tail ss None b = tt
some_tail ss (Some rest) b = is_tail b

ends_by : (p : Part) (s : Spot) (ss : List Spot) → SomeTail (s ∷ ss) (ends p s ss)
ends_by (part.Whole d) s ss = some_tail (s ∷ ss) (closes d (s ∷ ss)) (closes_behind d (s ∷ ss))
ends_by (part.Text d) s ss = either (SomeTail (s ∷ ss)) (stops_text d s ss) whole tt
ends_by (part.Spec d) s ss = either (SomeTail (s ∷ ss)) (stops_spec d s ss) whole tt

ends_tail : (p : Part) (s : Spot) (ss : List Spot) {rest : List Spot} → ends p s ss ≡ Some rest → Tail (s ∷ ss) rest
ends_tail p s ss e = let t = subst (SomeTail (s ∷ ss)) e (ends_by p s ss) in t

pub inside_tail : {p : Part} {text rest : List Spot} {vs : List ℕ} → Inside p text vs rest → Tail text rest
inside_tail {p = p} (closed {s = s} {ss = ss} e) = ends_tail p s ss e
inside_tail {p = p} (more {s = s} {ss = ss} c e i f) = is_tail (behind_tail (piece_behind p s ss e) (inside_tail i))

-- a part that doesn't end where it begins
abbrev NotAtOnce : Part → List Spot → Type 0
NotAtOnce p [] = Unit {0}
NotAtOnce p (s ∷ ss) = ends p s ss ≡ None

inside_behind : {p : Part} {text rest : List Spot} {vs : List ℕ} → NotAtOnce p text → Inside p text vs rest → Behind text rest
inside_behind n (closed e) = absurd (closed_or_open e n)
inside_behind {p = p} n (more {s = s} {ss = ss} c e i f) = behind_tail (piece_behind p s ss e) (inside_tail i)

-- literals
-- Where a part begins: behind some of the text, or at once, and then it doesn't end there.
abbrev PartBehind : List Spot → Part → List Spot → Type 0
PartBehind ss p rest = Behind ss rest ⊎ ((ss ≡ rest) × NotAtOnce p rest)

abbrev LiteralBehind : List Spot → Literal → Type 0
LiteralBehind ss no_literal = Unit {0}
LiteralBehind ss (faulty e) = Unit {0}
LiteralBehind ss (known w rest) = Behind ss rest
LiteralBehind ss (holds p rest) = PartBehind ss p rest

-- the same with no part that begins at once
abbrev AllBehind : List Spot → Literal → Type 0
AllBehind ss no_literal = Unit {0}
AllBehind ss (faulty e) = Unit {0}
AllBehind ss (known w rest) = Behind ss rest
AllBehind ss (holds p rest) = Behind ss rest

all_literal : (ss : List Spot) (l : Literal) → AllBehind ss l → LiteralBehind ss l
all_literal ss no_literal b = tt
all_literal ss (faulty e) b = tt
all_literal ss (known w rest) b = b
all_literal ss (holds p rest) b = inl b

literal_past : (s : Spot) (ss : List Spot) (l : Literal) → AllBehind ss l → AllBehind (s ∷ ss) l
literal_past s ss no_literal b = tt
literal_past s ss (faulty e) b = tt
literal_past s ss (known w rest) b = beyond (is_tail b)
literal_past s ss (holds p rest) b = beyond (is_tail b)

-- digits take some of the text
digits_behind : (radix n : ℕ) (ss : List Spot) → are_digits radix (take n ss) ≡ true → Behind ss (drop n ss)
digits_behind radix zero ss h = absurd (both_ways (are_digits radix []) refl h)
digits_behind radix (suc n) [] h = absurd (both_ways (are_digits radix []) refl h)
digits_behind radix (suc n) (s ∷ ss) h = beyond (drop_tail n ss)

within_behind : (line : Line) (n : ℕ) (ss rest : List Spot) → Behind ss rest → AllBehind ss (within line n rest)
within_behind line n ss rest b = either (AllBehind ss) (nat_lt n (2 ^ 127)) b tt

number_by_behind : (s : Spot) (radix n : ℕ) (ss : List Spot) → AllBehind ss (number_by s radix (take n ss) (drop n ss))
number_by_behind s radix n ss =
    either_if (AllBehind ss) (are_digits radix (take n ss))
    (λ h. either (AllBehind ss) ((radix == 10) && makes_float (drop n ss)) tt (within_behind s.line (value_from radix 0 (take n ss)) ss (drop n ss) (digits_behind radix n ss h)))
    tt

prefix_tail : (radix : ℕ) (ss : List Spot) → Tail ss (behind_prefix radix ss)
prefix_tail radix ss = either (Tail ss) (radix == 10) whole (tail_tail (one_tail ss) (one_tail (behind_one ss)))

literal_tail : (ss mid : List Spot) (l : Literal) → Tail ss mid → AllBehind mid l → AllBehind ss l
literal_tail ss mid no_literal t b = tt
literal_tail ss mid (faulty e) t b = tt
literal_tail ss mid (known w rest) t b = tail_behind t b
literal_tail ss mid (holds p rest) t b = tail_behind t b

number_here : (s : Spot) (ss : List Spot) → AllBehind ss (number s ss)
number_here s ss =
    let behind = behind_prefix (radix_of ss) ss in
    literal_tail ss behind (number s ss) (prefix_tail (radix_of ss) ss) (number_by_behind s (radix_of ss) (digits_len (radix_of ss) behind) behind)

number_at_behind : (ss : List Spot) → AllBehind ss (number_at ss)
number_at_behind [] = tt
number_at_behind (s ∷ ss) =
    either (AllBehind (s ∷ ss)) (is_digit s.char 10) (number_here s (s ∷ ss)) (either (AllBehind (s ∷ ss)) (is_fraction s ss) tt tt)

begun_behind : (f : Bool) (d : Delimiter) (ss rest : List Spot) → Behind ss rest → AllBehind ss (begun f d rest)
begun_behind f d ss rest b = either (AllBehind ss) f b b

delimited_by_behind : (s : Spot) (ss : List Spot) (f r : Bool) (line : Line) (q : ℕ) (o : Option (List Spot)) → SomeBehind ss o → AllBehind (s ∷ ss) (delimited_by f r line q ss o)
delimited_by_behind s ss f r line q None b = begun_behind f _ (s ∷ ss) ss (beyond whole)
delimited_by_behind s ss f r line q (Some rest) b = begun_behind f _ (s ∷ ss) rest (beyond (is_tail b))

delimited_behind : (s : Spot) (ss : List Spot) (f r : Bool) (line : Line) (q : ℕ) → AllBehind (s ∷ ss) (delimited f r line q ss)
delimited_behind s ss f r line q = delimited_by_behind s ss f r line q (behind_two q ss) (two_behind q ss)

prefixed_behind : (o : Option StringKind) (s : Spot) (ss : List Spot) (line : Line) (q : ℕ) → AllBehind (s ∷ ss) (prefixed o line q ss)
prefixed_behind None s ss line q = tt
prefixed_behind (Some Plain) s ss line q = delimited_behind s ss false false line q
prefixed_behind (Some Raw) s ss line q = delimited_behind s ss false true line q
prefixed_behind (Some Bytes) s ss line q = tt
prefixed_behind (Some Format) s ss line q = delimited_behind s ss true false line q
prefixed_behind (Some RawFormat) s ss line q = delimited_behind s ss true true line q

string_two_behind : (s t : Spot) (ss : List Spot) → AllBehind ss (string_behind_two s t ss)
string_two_behind s t [] = tt
string_two_behind s t (u ∷ ss) = either (AllBehind (u ∷ ss)) (is_quote u.char) (prefixed_behind (kind_by_two s.char t.char) u ss s.line u.char) tt

string_one_behind : (s : Spot) (ss : List Spot) → AllBehind ss (string_behind_one s ss)
string_one_behind s [] = tt
string_one_behind s (t ∷ ss) =
    either (AllBehind (t ∷ ss)) (is_quote t.char) (prefixed_behind (kind_by s.char) t ss s.line t.char) (literal_past t ss (string_behind_two s t ss) (string_two_behind s t ss))

string_at_behind : (ss : List Spot) → AllBehind ss (string_at ss)
string_at_behind [] = tt
string_at_behind (s ∷ ss) =
    either (AllBehind (s ∷ ss)) (is_quote s.char) (delimited_behind s ss false false s.line s.char) (literal_past s ss (string_behind_one s ss) (string_one_behind s ss))

-- the first of two that begins
or_else_by : (P : Literal → Type 0) (l m : Literal) → P l → P m → P (or_else l m)
or_else_by P no_literal m p q = q
or_else_by P (faulty e) m p q = p
or_else_by P (known w rest) m p q = p
or_else_by P (holds r rest) m p q = p

field_sign_behind : (ss : List Spot) → AllBehind ss (field_sign_at ss)
field_sign_behind [] = tt
field_sign_behind (s ∷ ss) =
    either (AllBehind (s ∷ ss)) (s.char == 58) (beyond whole)
    (either (AllBehind (s ∷ ss)) ((s.char == 33) && not (begins_by 61 ss)) (either (AllBehind (s ∷ ss)) (is_name_a ss) tt (beyond whole))
    (either (AllBehind (s ∷ ss)) ((s.char == 61) && not (begins_by 61 ss)) tt tt))

ended_behind : (ss : List Spot) (o : Option (List Spot)) (l : Literal) → SomeBehind ss o → (o ≡ None → LiteralBehind ss l) → LiteralBehind ss (ended_or o l)
ended_behind ss None l b f = f refl
ended_behind ss (Some rest) l b f = b

either_not : {A : Type 0} (P : A → Type 0) (b : Bool) {x y : A} → P x → (b ≡ false → P y) → P (if b then x else y)
either_not P true p q = p
either_not P false p q = q refl

-- no part ends where nothing of it does
goes_on_at : (b c : Bool) (ss : List Spot) (o : Option (List Spot)) → o ≡ None → c ≡ false → stops_at (is_some o || c) ss ≡ None
goes_on_at b c ss o h k = ap (λ x. stops_at (is_some x || c) ss) h ∙ ap (λ x. stops_at x ss) k

text_at_behind : (d : Delimiter) (ss : List Spot) → LiteralBehind ss (text_at d ss)
text_at_behind d [] = inr (refl, tt)
text_at_behind d (s ∷ ss) =
    ended_behind (s ∷ ss) (closes d (s ∷ ss)) _ (closes_behind d (s ∷ ss))
    (λ h. either_not (LiteralBehind (s ∷ ss)) (is_single s ss) (either (LiteralBehind (s ∷ ss)) (s.char == 123) (beyond whole) tt)
    (λ k. inr (refl, goes_on_at true (is_single s ss) (s ∷ ss) (closes d (s ∷ ss)) h k)))

spec_at_behind : (d : Delimiter) (ss : List Spot) → LiteralBehind ss (spec_at d ss)
spec_at_behind d [] = inr (refl, tt)
spec_at_behind d (s ∷ ss) =
    ended_behind (s ∷ ss) (closes d (s ∷ ss)) _ (closes_behind d (s ∷ ss))
    (λ h. either_not (LiteralBehind (s ∷ ss)) (is_brace s.char) (either (LiteralBehind (s ∷ ss)) (s.char == 123) (beyond whole) (beyond whole))
    (λ k. inr (refl, goes_on_at true (is_brace s.char) (s ∷ ss) (closes d (s ∷ ss)) h k)))

number_or_string : (ss : List Spot) → AllBehind ss (or_else (number_at ss) (string_at ss))
number_or_string ss = or_else_by (AllBehind ss) (number_at ss) (string_at ss) (number_at_behind ss) (string_at_behind ss)

literal_behind : (m : Mode) (ss : List Spot) → LiteralBehind ss (literal m ss)
literal_behind mode.Words ss = all_literal ss (or_else (number_at ss) (string_at ss)) (number_or_string ss)
literal_behind (mode.Text d) ss = text_at_behind d ss
literal_behind (mode.Field f) ss =
    all_literal ss (or_else (field_sign_at ss) (or_else (number_at ss) (string_at ss)))
    (or_else_by (AllBehind ss) (field_sign_at ss) (or_else (number_at ss) (string_at ss)) (field_sign_behind ss) (number_or_string ss))
literal_behind (mode.Spec f) ss = spec_at_behind f.string ss

pub known_behind : (m : Mode) (text : List Spot) {rest : List Spot} {w : Lexeme} → literal m text ≡ known w rest → Behind text rest
known_behind m text e = let t = subst (LiteralBehind text) e (literal_behind m text) in t

holds_behind : (m : Mode) (text : List Spot) {inner : List Spot} {p : Part} → literal m text ≡ holds p inner → PartBehind text p inner
holds_behind m text e = let t = subst (LiteralBehind text) e (literal_behind m text) in t

part_tail : (text inner : List Spot) (p : Part) → PartBehind text p inner → Tail text inner
part_tail text inner p (inl b) = is_tail b
part_tail text inner p (inr e) = subst (Tail text) e.0 whole

pub holds_tail : (m : Mode) (text : List Spot) {inner : List Spot} {p : Part} → literal m text ≡ holds p inner → Tail text inner
holds_tail m text {inner = inner} {p = p} e = part_tail text inner p (holds_behind m text e)

pub part_behind : (m : Mode) (text : List Spot) {inner rest : List Spot} {p : Part} {vs : List ℕ} → literal m text ≡ holds p inner → Inside p inner vs rest → Behind text rest
part_behind m text {inner = inner} {p = p} e i = go text inner p (holds_behind m text e) i
  where
    go : (text inner : List Spot) (p : Part) {rest : List Spot} {vs : List ℕ} → PartBehind text p inner → Inside p inner vs rest → Behind text rest
    go text inner p (inl b) i = behind_tail b (inside_tail i)
    go text inner p {rest = rest} (inr e) i = subst (λ x. Behind x rest) (sym e.0) (inside_behind e.1 i)

-- a place has one literal at most, and its string one end
pub same_known : {l : Literal} {v w : Lexeme} {a b : List Spot} → l ≡ known v a → l ≡ known w b → (v ≡ w) × (a ≡ b)
same_known h k = (cc, cc)

pub same_holds : {l : Literal} {p q : Part} {a b : List Spot} → l ≡ holds p a → l ≡ holds q b → (p ≡ q) × (a ≡ b)
same_holds h k = (cc, cc)

pub same_faulty : {l : Literal} {e f : LexErr} → l ≡ faulty e → l ≡ faulty f → e ≡ f
same_faulty h k = cc

pub no_or_faulty : {l : Literal} {e : LexErr} → l ≡ no_literal → l ≡ faulty e → ⊥
no_or_faulty h k = cc

pub no_or_known : {l : Literal} {w : Lexeme} {a : List Spot} → l ≡ no_literal → l ≡ known w a → ⊥
no_or_known h k = cc

pub no_or_holds : {l : Literal} {p : Part} {a : List Spot} → l ≡ no_literal → l ≡ holds p a → ⊥
no_or_holds h k = cc

pub known_or_faulty : {l : Literal} {w : Lexeme} {a : List Spot} {e : LexErr} → l ≡ known w a → l ≡ faulty e → ⊥
known_or_faulty h k = cc

pub known_or_holds : {l : Literal} {w : Lexeme} {a b : List Spot} {p : Part} → l ≡ known w a → l ≡ holds p b → ⊥
known_or_holds h k = cc

pub faulty_or_holds : {l : Literal} {e : LexErr} {b : List Spot} {p : Part} → l ≡ faulty e → l ≡ holds p b → ⊥
faulty_or_holds h k = cc

same_rest : {o : Option (List Spot)} {a b : List Spot} → o ≡ Some a → o ≡ Some b → a ≡ b
same_rest h k = cc

same_takes : {p : Piece} {cs ds : Chars} {a b : List Spot} → p ≡ takes cs a → p ≡ takes ds b → (cs ≡ ds) × (a ≡ b)
same_takes h k = (cc, cc)

same_fails : {p : Piece} {e f : LexErr} → p ≡ fails e → p ≡ fails f → e ≡ f
same_fails h k = cc

takes_or_fails : {p : Piece} {cs : Chars} {a : List Spot} {e : LexErr} → p ≡ takes cs a → p ≡ fails e → ⊥
takes_or_fails h k = cc

pub inside_at : {p q : Part} {a b rest : List Spot} {vs : List ℕ} → p ≡ q → a ≡ b → Inside p a vs rest → Inside q b vs rest
inside_at {p} {q} {a} {b} {rest} {vs} h k i = subst (λ x. Inside x b vs rest) h (subst (λ x. Inside p x vs rest) k i)

pub inside_fails_at : {end : TextEnd} {l m : Line} {p q : Part} {a b : List Spot} {e : LexErr} {at : ℕ} → l ≡ m → p ≡ q → a ≡ b → InsideFails end l p a e at → InsideFails end m q b e at
inside_fails_at {end} {l} {m} {p} {q} {a} {b} {e} {at} f h k i =
    subst (λ x. InsideFails end x q b e at) f (subst (λ x. InsideFails end l x b e at) h (subst (λ x. InsideFails end l p x e at) k i))

same_chars : {cs ds : Chars} {vs ws all every : List ℕ} → cs ≡ ds → vs ≡ ws → all ≡ listed cs ++ vs → every ≡ listed ds ++ ws → all ≡ every
same_chars {cs} {ds} {vs} {ws} h k e f = e ∙ (ap (λ x. listed x ++ vs) h ∙ (ap (λ x. listed ds ++ x) k ∙ sym f))

pub inside_once : {p : Part} {text a b : List Spot} {vs ws : List ℕ} → Inside p text vs a → Inside p text ws b → (vs ≡ ws) × (a ≡ b)
inside_once (closed e) (closed f) = (refl, same_rest e f)
inside_once (closed e) (more c p i f) = absurd (closed_or_open e c)
inside_once (more c p i e) (closed f) = absurd (closed_or_open f c)
inside_once (more c p i e) (more k q j f) =
    let t = same_takes p q in
    let r = inside_once i (inside_at refl (sym t.1) j) in
    (same_chars t.0 r.0 e f, r.1)

pub inside_or_fault : {end : TextEnd} {line : Line} {p : Part} {text rest : List Spot} {vs : List ℕ} {e : LexErr} {at : ℕ} → Inside p text vs rest → InsideFails end line p text e at → ⊥
inside_or_fault (closed e) (here c p) = closed_or_open e c
inside_or_fault (closed e) (behind c p f) = closed_or_open e c
inside_or_fault (more c p i e) (here k q) = takes_or_fails p q
inside_or_fault (more c p i e) (behind k q f) = let t = same_takes p q in inside_or_fault i (inside_fails_at refl refl (sym t.1) f)

pub inside_fails_once : {end : TextEnd} {line : Line} {p : Part} {text : List Spot} {e f : LexErr} {at place : ℕ} → InsideFails end line p text e at → InsideFails end line p text f place → (e ≡ f) × (at ≡ place)
inside_fails_once at_text_end at_text_end = (refl, refl)
inside_fails_once (here c p) (here k q) = (same_fails p q, refl)
inside_fails_once (here c p) (behind k q g) = absurd (takes_or_fails q p)
inside_fails_once (behind c p f) (here k q) = absurd (takes_or_fails p q)
inside_fails_once (behind c p f) (behind k q g) = let t = same_takes p q in inside_fails_once f (inside_fails_at refl refl (sym t.1) g)

pub literal_fails_once : {end : TextEnd} {n : Nest} {text : List Spot} {e f : LexErr} {at place : ℕ} → LiteralFails end n text e at → LiteralFails end n text f place → (e ≡ f) × (at ≡ place)
literal_fails_once (at_once h) (at_once k) = (same_faulty h k, refl)
literal_fails_once (at_once h) (in_string k g) = absurd (faulty_or_holds h k)
literal_fails_once (in_string h f) (at_once k) = absurd (faulty_or_holds k h)
literal_fails_once {n = n} (in_string h f) (in_string k g) =
    let t = same_holds h k in
    inside_fails_once f (inside_fails_at (ap (λ x. or_line (string_line n) (line_of_part x)) (sym t.0)) (sym t.0) (sym t.1) g)

pub literal_fails_at : {end : TextEnd} {n : Nest} {a b : List Spot} {e : LexErr} {at : ℕ} → a ≡ b → LiteralFails end n a e at → LiteralFails end n b e at
literal_fails_at {end} {n} {a} {b} {e} {at} h f = subst (λ x. LiteralFails end n x e at) h f

-- where literals fail
pub inside_fails_behind : {end : TextEnd} {line : Line} {p : Part} {text : List Spot} {e : LexErr} {at : ℕ} → InsideFails end line p text e at → Rises end text → at_of end text ≤ at
inside_fails_behind at_text_end r = omega arith
inside_fails_behind (here c p) r = omega arith
inside_fails_behind {end = end} {p = p} (behind {s = s} {ss = ss} c q f) r =
    let h = behind_rises end (piece_behind p s ss q) r in
    let k = inside_fails_behind f h.1 in
    omega (arith, h.0)

pub literal_fails_behind : {end : TextEnd} {n : Nest} {text : List Spot} {e : LexErr} {at : ℕ} → LiteralFails end n text e at → Rises end text → at_of end text ≤ at
literal_fails_behind (at_once h) r = omega arith
literal_fails_behind {end = end} {n = n} {text = text} (in_string h f) r =
    let k = tail_rises end (holds_tail (mode_of n) text h) r in
    let l = inside_fails_behind f k.1 in
    omega (arith, k.0)

-- among words, a string has quotes before its first character
pub string_fails_behind : {end : TextEnd} {text inner : List Spot} {p : Part} {e : LexErr} {at : ℕ} → LiteralFails end outside text e at → literal mode.Words text ≡ holds p inner → Rises end text → at_of end text < at
string_fails_behind (at_once h) o r = absurd (faulty_or_holds h o)
string_fails_behind {end = end} {text = text} (in_string h f) o r =
    let b = subst (AllBehind text) h (number_or_string text) in
    let k = behind_rises end b r in
    let l = inside_fails_behind f k.1 in
    omega (arith, k.0)

-- the numbers of their faults
abbrev LateLiteral : Line → Literal → Type 0
LateLiteral line no_literal = Unit {0}
LateLiteral line (faulty e) = (4 ≤ number_of e) × IsBeforeLimit line e
LateLiteral line (known w rest) = Unit {0}
LateLiteral line (holds p rest) = Unit {0}

late_excluded : (line : Line) → LateLiteral line (faulty (fault.Excluded line))
late_excluded line = (omega arith, inl (omega arith))

late_within : (line : Line) (n : ℕ) (rest : List Spot) → LateLiteral line (within line n rest)
late_within line n rest = either (LateLiteral line) (nat_lt n (2 ^ 127)) tt (omega arith, inr refl)

late_number_by : (s : Spot) (radix : ℕ) (digits rest : List Spot) → LateLiteral s.line (number_by s radix digits rest)
late_number_by s radix digits rest =
    either (LateLiteral s.line) (are_digits radix digits)
    (either (LateLiteral s.line) ((radix == 10) && makes_float rest) (late_excluded s.line) (late_within s.line (value_from radix 0 digits) rest))
    (omega arith, inl (omega arith))

late_number_behind : (s : Spot) (radix : ℕ) (text : List Spot) → LateLiteral s.line (number_behind s radix text)
late_number_behind s radix text = late_number_by s radix (take (digits_len radix text) text) (drop (digits_len radix text) text)

late_delimited : (line l : Line) (q : ℕ) (f r : Bool) (ss : List Spot) (o : Option (List Spot)) → LateLiteral line (delimited_by f r l q ss o)
late_delimited line l q f r ss None = either (LateLiteral line) f tt tt
late_delimited line l q f r ss (Some rest) = either (LateLiteral line) f tt tt

late_prefixed : (o : Option StringKind) (line : Line) (q : ℕ) (ss : List Spot) → LateLiteral line (prefixed o line q ss)
late_prefixed None line q ss = tt
late_prefixed (Some Plain) line q ss = late_delimited line line q false false ss (behind_two q ss)
late_prefixed (Some Raw) line q ss = late_delimited line line q false true ss (behind_two q ss)
late_prefixed (Some Bytes) line q ss = late_excluded line
late_prefixed (Some Format) line q ss = late_delimited line line q true false ss (behind_two q ss)
late_prefixed (Some RawFormat) line q ss = late_delimited line line q true true ss (behind_two q ss)

late_string_two : (s t : Spot) (ss : List Spot) → LateLiteral s.line (string_behind_two s t ss)
late_string_two s t [] = tt
late_string_two s t (u ∷ ss) = either (LateLiteral s.line) (is_quote u.char) (late_prefixed (kind_by_two s.char t.char) s.line u.char ss) tt

late_string_one : (s : Spot) (ss : List Spot) → LateLiteral s.line (string_behind_one s ss)
late_string_one s [] = tt
late_string_one s (t ∷ ss) = either (LateLiteral s.line) (is_quote t.char) (late_prefixed (kind_by s.char) s.line t.char ss) (late_string_two s t ss)

late_string : (s : Spot) (ss : List Spot) → LateLiteral s.line (string_at (s ∷ ss))
late_string s ss = either (LateLiteral s.line) (is_quote s.char) (late_delimited s.line s.line s.char false false ss (behind_two s.char ss)) (late_string_one s ss)

late_number : (s : Spot) (ss : List Spot) → LateLiteral s.line (number_at (s ∷ ss))
late_number s ss =
    either (LateLiteral s.line) (is_digit s.char 10) (late_number_behind s (radix_of (s ∷ ss)) (behind_prefix (radix_of (s ∷ ss)) (s ∷ ss)))
    (either (LateLiteral s.line) (is_fraction s ss) (late_excluded s.line) tt)

late_both : (s : Spot) (ss : List Spot) → LateLiteral s.line (or_else (number_at (s ∷ ss)) (string_at (s ∷ ss)))
late_both s ss = or_else_by (LateLiteral s.line) (number_at (s ∷ ss)) (string_at (s ∷ ss)) (late_number s ss) (late_string s ss)

late_field_sign : (s : Spot) (ss : List Spot) → LateLiteral s.line (field_sign s ss)
late_field_sign s ss =
    either (LateLiteral s.line) (s.char == 58) tt
    (either (LateLiteral s.line) ((s.char == 33) && not (begins_by 61 ss)) (either (LateLiteral s.line) (is_name_a ss) (late_excluded s.line) tt)
    (either (LateLiteral s.line) ((s.char == 61) && not (begins_by 61 ss)) (late_excluded s.line) tt))

late_ended : (line : Line) (o : Option (List Spot)) (l : Literal) → LateLiteral line l → LateLiteral line (ended_or o l)
late_ended line None l h = h
late_ended line (Some rest) l h = tt

late_text : (d : Delimiter) (s : Spot) (ss : List Spot) → LateLiteral s.line (text_at d (s ∷ ss))
late_text d s ss =
    late_ended s.line (closes d (s ∷ ss)) _ (either (LateLiteral s.line) (is_single s ss) (either (LateLiteral s.line) (s.char == 123) tt (omega arith, inl (omega arith))) tt)

late_spec : (d : Delimiter) (s : Spot) (ss : List Spot) → LateLiteral s.line (spec_at d (s ∷ ss))
late_spec d s ss = late_ended s.line (closes d (s ∷ ss)) _ (either (LateLiteral s.line) (is_brace s.char) (either (LateLiteral s.line) (s.char == 123) tt tt) tt)

late_literal : (m : Mode) (s : Spot) (ss : List Spot) → LateLiteral s.line (literal m (s ∷ ss))
late_literal mode.Words s ss = late_both s ss
late_literal (mode.Text d) s ss = late_text d s ss
late_literal (mode.Field f) s ss = or_else_by (LateLiteral s.line) (field_sign s ss) (or_else (number_at (s ∷ ss)) (string_at (s ∷ ss))) (late_field_sign s ss) (late_both s ss)
late_literal (mode.Spec f) s ss = late_spec f.string s ss

-- nothing is at fault at once where the text ends
no_fault_at_end : (m : Mode) (e : LexErr) → literal m [] ≡ faulty e → ⊥
no_fault_at_end mode.Words e h = no_or_faulty refl h
no_fault_at_end (mode.Text d) e h = faulty_or_holds h refl
no_fault_at_end (mode.Field f) e h = no_or_faulty refl h
no_fault_at_end (mode.Spec f) e h = faulty_or_holds h refl

pub faulty_late : (end : TextEnd) (m : Mode) (text : List Spot) (e : LexErr) → literal m text ≡ faulty e → (4 ≤ number_of e) × IsBeforeLimit (line_of end text) e
faulty_late end m [] e h = absurd (no_fault_at_end m e h)
faulty_late end m (s ∷ ss) e h = let l = subst (LateLiteral s.line) h (late_literal m s ss) in l

abbrev LatePiece : Piece → Type 0
LatePiece (takes cs rest) = Unit {0}
LatePiece (fails e) = 4 ≤ number_of e

late_coded : (s : Spot) (n : ℕ) (rest : List Spot) → LatePiece (coded s n rest)
late_coded s n rest = either LatePiece (nat_lt n 0x110000) (either LatePiece (is_surrogate n) (omega arith) tt) (omega arith)

late_hex : (s : Spot) (n : ℕ) (ss : List Spot) → LatePiece (hex s n ss)
late_hex s n ss = either LatePiece (are_hex n (take n ss)) (late_coded s (value_from 16 0 (take n ss)) (drop n ss)) (omega arith)

late_letter : (s t : Spot) (us : List Spot) → LatePiece (by_letter s t us)
late_letter s t us =
    either LatePiece (t.char == 120) (late_hex s 2 us)
    (either LatePiece (t.char == 117) (late_hex s 4 us) (either LatePiece (t.char == 85) (late_hex s 8 us) (either LatePiece (t.char == 78) (omega arith) tt)))

late_escaped : (o : Option ℕ) (s t : Spot) (us : List Spot) → LatePiece (escaped o s t us)
late_escaped (Some c) s t us = tt
late_escaped None s t us =
    either LatePiece (is_digit t.char 8) (late_coded s (value_from 8 0 (take (octal_len (t ∷ us)) (t ∷ us))) (drop (octal_len (t ∷ us)) (t ∷ us))) (late_letter s t us)

late_escape : (s : Spot) (ss : List Spot) → LatePiece (escape s ss)
late_escape s [] = tt
late_escape s (t ∷ us) = either LatePiece (ends_line t.char) tt (late_escaped (simple t.char) s t us)

late_raw : (f : Bool) (ss : List Spot) → LatePiece (raw_escape f ss)
late_raw f [] = tt
late_raw f (t ∷ us) = either LatePiece (ends_line t.char) tt (either LatePiece (f && is_brace t.char) tt tt)

late_piece_in : (f : Bool) (d : Delimiter) (s : Spot) (ss : List Spot) → LatePiece (piece_in f d s ss)
late_piece_in f d s ss =
    either LatePiece (s.char == 92) (either LatePiece d.is_raw (late_raw f ss) (late_escape s ss))
    (either LatePiece (ends_line s.char) (either LatePiece d.is_triple tt (omega arith)) tt)

late_piece : (p : Part) (s : Spot) (ss : List Spot) → LatePiece (piece p s ss)
late_piece (part.Whole d) s ss = late_piece_in false d s ss
late_piece (part.Text d) s ss = either LatePiece (is_brace s.char) tt (late_piece_in true d s ss)
late_piece (part.Spec d) s ss = late_piece_in true d s ss

fails_late : (p : Part) (s : Spot) (ss : List Spot) {e : LexErr} → piece p s ss ≡ fails e → 4 ≤ number_of e
fails_late p s ss q = let l = subst LatePiece q (late_piece p s ss) in l

inside_late : {end : TextEnd} {line : Line} {p : Part} {text : List Spot} {e : LexErr} {at : ℕ} → InsideFails end line p text e at → (4 ≤ number_of e) ⊎ (at ≡ end.at)
inside_late at_text_end = inr refl
inside_late {p = p} (here {s = s} {ss = ss} c q) = inl (fails_late p s ss q)
inside_late (behind c p f) = inside_late f

pub literal_late : {end : TextEnd} {n : Nest} {text : List Spot} {e : LexErr} {at : ℕ} → LiteralFails end n text e at → (4 ≤ number_of e) ⊎ (at ≡ end.at)
literal_late {end = end} {n = n} (at_once {text = text} {e = e} h) = inl (faulty_late end (mode_of n) text e h).0
literal_late (in_string h f) = inside_late f

-- characters that begin no literal among words
abbrev pub may_begin : ℕ → Bool
may_begin c =
    is_digit c 10 || ((c == 46) || (is_quote c || (is_either c 114 82 || (is_either c 117 85 || (is_either c 98 66 || (is_either c 102 70 || ((c == 58) || ((c == 33) || (c == 61)))))))))

pick_other : {A : Type 0} (b : Bool) (x : A) {y z : A} → b ≡ false → y ≡ z → (if b then x else y) ≡ z
pick_other true x h k = absurd (both_ways true h refl)
pick_other false x h k = k

neither : (a b : Bool) → (a || b) ≡ false → (a ≡ false) × (b ≡ false)
neither true b h = absurd (both_ways true h refl)
neither false b h = (refl, h)

raw_none : (c : ℕ) → is_either c 98 66 ≡ false → is_either c 102 70 ≡ false → raw_kind_by c ≡ None
raw_none c b f = pick_other (is_either c 98 66) (Some Bytes) b (pick_other (is_either c 102 70) (Some RawFormat) f refl)

prefixed_none : (o : Option StringKind) (line : Line) (q : ℕ) (ss : List Spot) → o ≡ None → prefixed o line q ss ≡ no_literal
prefixed_none o line q ss e = ap (λ x. prefixed x line q ss) e

abbrev IsNone : Option StringKind → Type 0
IsNone o = o ≡ None

abbrev IsNoLiteral : Literal → Type 0
IsNoLiteral l = l ≡ no_literal

-- a character is no letter of a prefix
record IsNoPrefix (c : ℕ) : Type 0 where
  r : is_either c 114 82 ≡ false
  u : is_either c 117 85 ≡ false
  b : is_either c 98 66 ≡ false
  f : is_either c 102 70 ≡ false

no_string_two : (s t : Spot) (ss : List Spot) → IsNoPrefix s.char → string_behind_two s t ss ≡ no_literal
no_string_two s t [] n = refl
no_string_two s t (u ∷ ss) n =
    either IsNoLiteral (is_quote u.char)
    (prefixed_none (kind_by_two s.char t.char) s.line u.char ss (pick_other (is_either s.char 114 82) (raw_kind_by t.char) n.r (either IsNone (is_either t.char 114 82) (raw_none s.char n.b n.f) refl)))
    refl

no_kind : (c : ℕ) → IsNoPrefix c → kind_by c ≡ None
no_kind c n =
    pick_other (is_either c 114 82) (Some Raw) n.r
    (pick_other (is_either c 117 85) (Some Plain) n.u (pick_other (is_either c 98 66) (Some Bytes) n.b (pick_other (is_either c 102 70) (Some Format) n.f refl)))

no_string_one : (s : Spot) (ss : List Spot) → IsNoPrefix s.char → string_behind_one s ss ≡ no_literal
no_string_one s [] n = refl
no_string_one s (t ∷ ss) n =
    either IsNoLiteral (is_quote t.char)
    (prefixed_none (kind_by s.char) s.line t.char ss (no_kind s.char n))
    (no_string_two s t ss n)

no_number_or_string : (s : Spot) (ss : List Spot) → is_digit s.char 10 ≡ false → (s.char == 46) ≡ false → is_quote s.char ≡ false → IsNoPrefix s.char
    → or_else (number_at (s ∷ ss)) (string_at (s ∷ ss)) ≡ no_literal
no_number_or_string s ss d p q n =
    let k : number_at (s ∷ ss) ≡ no_literal = pick_other (is_digit s.char 10) (number s (s ∷ ss)) d (pick_other (is_fraction s ss) (faulty (fault.Excluded s.line)) (and_left (s.char == 46) _ p) refl) in
    ap (λ l. or_else l (string_at (s ∷ ss))) k ∙ pick_other (is_quote s.char) (delimited false false s.line s.char ss) q (no_string_one s ss n)

no_field_sign : (s : Spot) (ss : List Spot) → (s.char == 58) ≡ false → (s.char == 33) ≡ false → (s.char == 61) ≡ false → field_sign s ss ≡ no_literal
no_field_sign s ss c b e =
    pick_other (s.char == 58) (known (sign (codes ":")) ss) c
    (pick_other ((s.char == 33) && not (begins_by 61 ss)) (conversion s ss) (and_left (s.char == 33) _ b)
    (pick_other ((s.char == 61) && not (begins_by 61 ss)) (faulty (fault.Excluded s.line)) (and_left (s.char == 61) _ e) refl))

pub no_literal_by : (m : Mode) (s : Spot) (ss : List Spot) → has_words m ≡ true → may_begin s.char ≡ false → literal m (s ∷ ss) ≡ no_literal
no_literal_by m s ss w h =
    let c = s.char in
    let a = neither (is_digit c 10) _ h in
    let b = neither (c == 46) _ a.1 in
    let d = neither (is_quote c) _ b.1 in
    let e = neither (is_either c 114 82) _ d.1 in
    let f = neither (is_either c 117 85) _ e.1 in
    let g = neither (is_either c 98 66) _ f.1 in
    let i = neither (is_either c 102 70) _ g.1 in
    let j = neither (c == 58) _ i.1 in
    let k = neither (c == 33) _ j.1 in
    let both = no_number_or_string s ss a.0 b.0 d.0 (record { r = e.0; u = f.0; b = g.0; f = i.0 }) in
    by_mode m w both (no_field_sign s ss j.0 k.0 k.1)
  where
    by_mode : (m : Mode) → has_words m ≡ true → or_else (number_at (s ∷ ss)) (string_at (s ∷ ss)) ≡ no_literal → field_sign s ss ≡ no_literal → literal m (s ∷ ss) ≡ no_literal
    by_mode mode.Words w h k = h
    by_mode (mode.Text d) w h k = absurd (both_ways false refl w)
    by_mode (mode.Field x) w h k = ap (λ l. or_else l (or_else (number_at (s ∷ ss)) (string_at (s ∷ ss)))) k ∙ h
    by_mode (mode.Spec x) w h k = absurd (both_ways false refl w)

pub no_literal_at_end : (m : Mode) → has_words m ≡ true → literal m [] ≡ no_literal
no_literal_at_end mode.Words w = refl
no_literal_at_end (mode.Text d) w = absurd (both_ways false refl w)
no_literal_at_end (mode.Field x) w = refl
no_literal_at_end (mode.Spec x) w = absurd (both_ways false refl w)
