-- The shape of a list of tokens.
use Rattle.std.proofs.Common.{◌≡◌, ℕ, ◌≤◌, List, [], ◌∷◌, ◌++◌, Bool, true, false, Option, Some, None, refl, sym, subst, arith, length, take, drop}
use Rattle.std.specs.Prelude.{◌^◌, not, nat_lt, ◌==◌, ◌&&◌, if◌then◌else◌}
use Rattle.std.specs.Char.{is_digit}
use Rattle.pt_base.specs.declared.numbers.Line.{Line}
use Rattle.pt_literals.specs.declared.modes.Mode.{Mode}
use Rattle.pt_literals.specs.declared.modes.Mode.TheVariants as mode
use Rattle.pt_literals.specs.declared.modes.Part.{Part}
use Rattle.pt_literals.specs.declared.modes.Part.TheVariants as part
use Rattle.pt_literals.specs.declared.source.Spot.{Spot}
use Rattle.pt_literals.specs.declared.source.TextEnd.{TextEnd}
use Rattle.pt_literals.specs.declared.strings.Delimiter.{Delimiter}
use Rattle.pt_literals.specs.declared.strings.StringKind.{StringKind}
use Rattle.pt_literals.specs.declared.strings.StringKind.TheVariants.{Plain, Raw, Bytes, Format, RawFormat}
use Rattle.pt_lexer.specs.declared.token.Column.{Column}
use Rattle.pt_literals.specs.declared.token.Lexeme.{Lexeme}
use Rattle.pt_literals.specs.declared.token.Token.{Token}
use Rattle.pt_literals.specs.declared.token.TokenKind.{TokenKind}
use Rattle.pt_literals.specs.declared.token.TokenKind.TheVariants as kind
use Rattle.pt_literals.specs.Numbers.{are_digits, value_from, radix_of, behind_prefix, digits_len, makes_float, is_fraction}
use Rattle.pt_literals.specs.Literals.{Literal, no_literal, faulty, known, holds, or_else, number_by, number_at, closes, begun, behind_two, delimited_by, prefixed, is_quote, kind_by, kind_by_two, string_behind_two, string_behind_one, string_at, is_name_a, begins_by, field_sign_at, is_brace, is_single, ended_or, text_at, spec_at, literal}
use Rattle.pt_lexer.specs.Words.{Spells, kind_of_part, Next, plain, begun as begun_word, string}
use Rattle.pt_literals.specs.declared.token.Lexeme.TheVariants.{Word, Start}
use Rattle.pt_lexer.specs.Lines.{at_of, Nest, mode_of, Body, finish, word, kind_of, Back, there, further, Turn, deeper, level, marks, closing, Lines, done, empty, full}
use Rattle.pt_lexer.specs.Progress.{Rises}
use Rattle.pt_lexer.specs.Shape.{HasPlace, IsWellFormed, PlacesRise}
use Rattle.pt_lexer.proofs.FirstLemmas.{gap_rises, stops_rises, next_rises}
use Rattle.pt_lexer.proofs.LineLemmas.{body_rises}

-- tokens that are neither at the ends of lines nor between them
abbrev pub IsWord : TokenKind → Type 0
IsWord kind.Newline = ⊥
IsWord kind.Indent = ⊥
IsWord kind.Dedent = ⊥
IsWord kind.End = ⊥
IsWord _ = Unit {0}

abbrev AreWords : List Token → Type 0
AreWords [] = Unit {0}
AreWords (t ∷ ts) = IsWord t.kind × AreWords ts

-- a word among words: an f-string may start, and none ends
abbrev pub IsAmongWords : Lexeme → Type 0
IsAmongWords (Start d) = Unit {0}
IsAmongWords (Word kind.FStart) = ⊥
IsAmongWords (Word kind.FEnd) = ⊥
IsAmongWords (Word k) = IsWord k

-- a word of the text of an f-string, which may end
abbrev pub IsInText : Lexeme → Type 0
IsInText (Start d) = ⊥
IsInText (Word kind.FStart) = ⊥
IsInText (Word k) = IsWord k

abbrev pub IsOf : Mode → Lexeme → Type 0
IsOf mode.Words w = IsAmongWords w
IsOf (mode.Text d) w = IsInText w
IsOf (mode.Field f) w = IsAmongWords w
IsOf (mode.Spec f) w = IsInText w

-- what is known by its beginning is such a word
abbrev KnownWord : (Lexeme → Type 0) → Literal → Type 0
KnownWord P no_literal = Unit {0}
KnownWord P (faulty e) = Unit {0}
KnownWord P (known w rest) = P w
KnownWord P (holds p rest) = Unit {0}

either : {A : Type 0} (P : A → Type 0) (b : Bool) {x y : A} → P x → P y → P (if b then x else y)
either P true p q = p
either P false p q = q

or_else_word : (l m : Literal) → KnownWord IsAmongWords l → KnownWord IsAmongWords m → KnownWord IsAmongWords (or_else l m)
or_else_word no_literal m p q = q
or_else_word (faulty e) m p q = p
or_else_word (known w rest) m p q = p
or_else_word (holds r rest) m p q = p

number_by_word : (s : Spot) (radix : ℕ) (digits rest : List Spot) → KnownWord IsAmongWords (number_by s radix digits rest)
number_by_word s radix digits rest =
    either (KnownWord IsAmongWords) (are_digits radix digits)
    (either (KnownWord IsAmongWords) ((radix == 10) && makes_float rest) tt (either (KnownWord IsAmongWords) (nat_lt (value_from radix 0 digits) (2 ^ 127)) tt tt)) tt

number_word : (ss : List Spot) → KnownWord IsAmongWords (number_at ss)
number_word [] = tt
number_word (s ∷ ss) =
    let radix = radix_of (s ∷ ss) in
    let text = behind_prefix radix (s ∷ ss) in
    either (KnownWord IsAmongWords) (is_digit s.char 10) (number_by_word s radix (take (digits_len radix text) text) (drop (digits_len radix text) text)) (either (KnownWord IsAmongWords) (is_fraction s ss) tt tt)

begun_is_word : (f : Bool) (d : Delimiter) (rest : List Spot) → KnownWord IsAmongWords (begun f d rest)
begun_is_word f d rest = either (KnownWord IsAmongWords) f tt tt

delimited_word : (f r : Bool) (line : Line) (q : ℕ) (ss : List Spot) (o : Option (List Spot)) → KnownWord IsAmongWords (delimited_by f r line q ss o)
delimited_word f r line q ss None = begun_is_word f _ ss
delimited_word f r line q ss (Some rest) = begun_is_word f _ rest

prefixed_word : (o : Option StringKind) (line : Line) (q : ℕ) (ss : List Spot) → KnownWord IsAmongWords (prefixed o line q ss)
prefixed_word None line q ss = tt
prefixed_word (Some Plain) line q ss = delimited_word false false line q ss (behind_two q ss)
prefixed_word (Some Raw) line q ss = delimited_word false true line q ss (behind_two q ss)
prefixed_word (Some Bytes) line q ss = tt
prefixed_word (Some Format) line q ss = delimited_word true false line q ss (behind_two q ss)
prefixed_word (Some RawFormat) line q ss = delimited_word true true line q ss (behind_two q ss)

string_two_word : (s t : Spot) (ss : List Spot) → KnownWord IsAmongWords (string_behind_two s t ss)
string_two_word s t [] = tt
string_two_word s t (u ∷ ss) = either (KnownWord IsAmongWords) (is_quote u.char) (prefixed_word (kind_by_two s.char t.char) s.line u.char ss) tt

string_one_word : (s : Spot) (ss : List Spot) → KnownWord IsAmongWords (string_behind_one s ss)
string_one_word s [] = tt
string_one_word s (t ∷ ss) = either (KnownWord IsAmongWords) (is_quote t.char) (prefixed_word (kind_by s.char) s.line t.char ss) (string_two_word s t ss)

string_word : (ss : List Spot) → KnownWord IsAmongWords (string_at ss)
string_word [] = tt
string_word (s ∷ ss) = either (KnownWord IsAmongWords) (is_quote s.char) (delimited_word false false s.line s.char ss (behind_two s.char ss)) (string_one_word s ss)

field_sign_word : (ss : List Spot) → KnownWord IsAmongWords (field_sign_at ss)
field_sign_word [] = tt
field_sign_word (s ∷ ss) =
    either (KnownWord IsAmongWords) (s.char == 58) tt
    (either (KnownWord IsAmongWords) ((s.char == 33) && not (begins_by 61 ss)) (either (KnownWord IsAmongWords) (is_name_a ss) tt tt) (either (KnownWord IsAmongWords) ((s.char == 61) && not (begins_by 61 ss)) tt tt))

ended_word : (o : Option (List Spot)) (l : Literal) → KnownWord IsInText l → KnownWord IsInText (ended_or o l)
ended_word None l h = h
ended_word (Some rest) l h = tt

text_word : (d : Delimiter) (ss : List Spot) → KnownWord IsInText (text_at d ss)
text_word d [] = tt
text_word d (s ∷ ss) = ended_word (closes d (s ∷ ss)) _ (either (KnownWord IsInText) (is_single s ss) (either (KnownWord IsInText) (s.char == 123) tt tt) tt)

spec_word : (d : Delimiter) (ss : List Spot) → KnownWord IsInText (spec_at d ss)
spec_word d [] = tt
spec_word d (s ∷ ss) = ended_word (closes d (s ∷ ss)) _ (either (KnownWord IsInText) (is_brace s.char) (either (KnownWord IsInText) (s.char == 123) tt tt) tt)

literal_word : (m : Mode) (ss : List Spot) → KnownWord (IsOf m) (literal m ss)
literal_word mode.Words ss = or_else_word (number_at ss) (string_at ss) (number_word ss) (string_word ss)
literal_word (mode.Text d) ss = text_word d ss
literal_word (mode.Field f) ss = or_else_word (field_sign_at ss) (or_else (number_at ss) (string_at ss)) (field_sign_word ss) (or_else_word (number_at ss) (string_at ss) (number_word ss) (string_word ss))
literal_word (mode.Spec f) ss = spec_word f.string ss

of_mode : (m : Mode) (w : Lexeme) → IsAmongWords w → IsInText w → IsOf m w
of_mode mode.Words w a t = a
of_mode (mode.Text d) w a t = t
of_mode (mode.Field f) w a t = a
of_mode (mode.Spec f) w a t = t

spelt_word : (m : Mode) (w : TokenKind) (cs : List ℕ) → Spells w cs → IsOf m (Word w)
spelt_word m (kind.Name x) cs h = of_mode m (Word (kind.Name x)) tt tt
spelt_word m (kind.Sign x) cs h = of_mode m (Word (kind.Sign x)) tt tt
spelt_word m _ cs h = absurd h

part_word : (m : Mode) (p : Part) (x : List ℕ) → IsOf m (Word (kind_of_part p x))
part_word m (part.Whole d) x = of_mode m (Word (kind.Str x)) tt tt
part_word m (part.Text d) x = of_mode m (Word (kind.FText x)) tt tt
part_word m (part.Spec d) x = of_mode m (Word (kind.FText x)) tt tt

pub next_word : {m : Mode} {text rest : List Spot} {w : Lexeme} → Next m text w rest → IsOf m w
next_word (plain {m = m} {w = w} l n) = spelt_word m w _ n.spelled
next_word (begun_word {m = m} {text = text} e) = let k = subst (KnownWord (IsOf m)) e (literal_word m text) in k
next_word (string {m = m} {p = p} {x = x} e i h) = part_word m p x

among_is_word : (w : Lexeme) → IsAmongWords w → IsWord (kind_of w)
among_is_word (Start d) h = tt
among_is_word (Word kind.FStart) h = absurd h
among_is_word (Word kind.FEnd) h = absurd h
among_is_word (Word k) h = h

in_text_is_word : (w : Lexeme) → IsInText w → IsWord (kind_of w)
in_text_is_word (Start d) h = absurd h
in_text_is_word (Word kind.FStart) h = absurd h
in_text_is_word (Word k) h = h

pub is_word : (m : Mode) (w : Lexeme) → IsOf m w → IsWord (kind_of w)
is_word mode.Words w h = among_is_word w h
is_word (mode.Text d) w h = in_text_is_word w h
is_word (mode.Field f) w h = among_is_word w h
is_word (mode.Spec f) w h = in_text_is_word w h

body_words : {end : TextEnd} {n : Nest} {text stop rest : List Spot} {ws : List Token} → Body end n text ws stop rest → AreWords ws
body_words (finish g e) = tt
body_words (word {n = n} {w = w} g k t b) = (is_word (mode_of n) w (next_word k), body_words b)

-- a word may stand anywhere
word_place : (k : TokenKind) (n : ℕ) (b : Bool) (follows : ℕ → Bool → Type 0) (none : Type 0) → IsWord k → follows n true → HasPlace k n b follows none
word_place kind.Newline n b follows none w f = absurd w
word_place kind.Indent n b follows none w f = absurd w
word_place kind.Dedent n b follows none w f = absurd w
word_place kind.End n b follows none w f = absurd w
word_place _ n b follows none w f = f

words_well : (ws ts : List Token) (n : ℕ) → AreWords ws → IsWellFormed ts n true → IsWellFormed (ws ++ ts) n true
words_well [] ts n a h = h
words_well (w ∷ ws) ts n a h = word_place w.kind n true (IsWellFormed (ws ++ ts)) ((ws ++ ts) ≡ []) a.0 (words_well ws ts n a.1 h)

line_well : (w : Token) (ws ts : List Token) (n : ℕ) → AreWords (w ∷ ws) → IsWellFormed ts n true → IsWellFormed ((w ∷ ws) ++ ts) n false
line_well w ws ts n a h = word_place w.kind n false (IsWellFormed (ws ++ ts)) ((ws ++ ts) ≡ []) a.0 (words_well ws ts n a.1 h)

-- the blocks that are open
abbrev depth_of : List Column → ℕ
depth_of [] = 0
depth_of (k ∷ cols) = length cols

back_well : {cols after : List Column} {k : Column} {ks : List TokenKind} (at : ℕ) (line : Line) (ts : List Token) → Back cols k after ks → IsWellFormed ts (depth_of after) false → IsWellFormed (marks at line ks ++ ts) (depth_of cols) false
back_well at line ts (there h) w = w
back_well at line ts (further {cols = []} h b) w = elim b [ ]
back_well at line ts (further {cols = l ∷ cols} h b) w = (refl, back_well at line ts b w)

turn_well : {cols after : List Column} {k : Column} {ks : List TokenKind} (at : ℕ) (line : Line) (ts : List Token) → Turn cols k after ks → IsWellFormed ts (depth_of after) false → IsWellFormed (marks at line ks ++ ts) (depth_of cols) false
turn_well at line ts (deeper h) w = (refl, w)
turn_well at line ts (level b) w = back_well at line ts b w

closing_well : (end : TextEnd) (cols : List Column) → IsWellFormed (closing end cols) (depth_of cols) false
closing_well end [] = (refl, refl, refl)
closing_well end (k ∷ []) = (refl, refl, refl)
closing_well end (k ∷ (l ∷ cols)) = (refl, closing_well end (l ∷ cols))

pub lines_well : {end : TextEnd} {cols : List Column} {text : List Spot} {all : List Token} → Lines end cols text all → IsWellFormed all (depth_of cols) false
lines_well {end = end} {cols = cols} (done w h) = subst (λ x. IsWellFormed x (depth_of cols) false) (sym h) (closing_well end cols)
lines_well (empty b l) = lines_well l
lines_well {end = end} {cols = cols} (full {after = after} {w = w} {ws = ws} b t a d l h) =
    subst (λ x. IsWellFormed x (depth_of cols) false) (sym h) (turn_well w.at w.line _ t (line_well w ws _ (depth_of after) (body_words b) (refl, lines_well l)))

-- places
lower : {m n : ℕ} (ts : List Token) → m ≤ n → PlacesRise n ts → PlacesRise m ts
lower [] h r = tt
lower (t ∷ ts) h r = (omega (arith, r.0), r.1)

marks_rise : (at : ℕ) (line : Line) (ks : List TokenKind) (ts : List Token) → PlacesRise at ts → PlacesRise at (marks at line ks ++ ts)
marks_rise at line [] ts r = r
marks_rise at line (k ∷ ks) ts r = (omega arith, marks_rise at line ks ts r)

body_places : {end : TextEnd} {n : Nest} {text stop rest : List Spot} {ws : List Token} (p : ℕ) (ts : List Token) → Body end n text ws stop rest → Rises end text → p ≤ at_of end text → PlacesRise (at_of end stop) ts → PlacesRise p (ws ++ ts)
body_places p ts (finish g e) r h q = lower ts (let k = gap_rises g r in omega (arith, k.0)) q
body_places {end = end} p ts (word {mid = mid} g k t b) r h q =
    let l = gap_rises g r in
    let m = next_rises end k l.1 in
    (omega (arith, l.0), body_places (at_of end mid) ts b m.1 (omega (arith, m.0)) q)

closing_rise : (end : TextEnd) (cols : List Column) (p : ℕ) → p ≤ end.at → PlacesRise p (closing end cols)
closing_rise end [] p h = (h, tt)
closing_rise end (k ∷ []) p h = (h, tt)
closing_rise end (k ∷ (l ∷ cols)) p h = (h, closing_rise end (l ∷ cols) end.at (omega arith))

stop_before : {end : TextEnd} {n : Nest} {text stop rest : List Spot} {ws : List Token} → Body end n text ws stop rest → Rises end text → (at_of end text ≤ at_of end stop) × (at_of end stop ≤ at_of end rest)
stop_before (finish g e) r = let k = gap_rises g r in let l = stops_rises e k.1 in (k.0, l.0)
stop_before {end = end} (word g k t b) r =
    let l = gap_rises g r in
    let m = next_rises end k l.1 in
    let q = stop_before b m.1 in
    (omega (arith, l.0, m.0, q.0), q.1)

-- the place of the first word, with which the others go on
first_place : (w : Token) (ws ts : List Token) (p : ℕ) → PlacesRise p ((w ∷ ws) ++ ts) → (p ≤ w.at) × PlacesRise w.at ((w ∷ ws) ++ ts)
first_place w ws ts p r = (r.0, (omega arith, r.1))

pub lines_rise : {end : TextEnd} {cols : List Column} {text : List Spot} {all : List Token} (p : ℕ) → Lines end cols text all → Rises end text → p ≤ at_of end text → PlacesRise p all
lines_rise {end = end} {cols = cols} p (done w h) r q = subst (PlacesRise p) (sym h) (closing_rise end cols p q)
lines_rise {end = end} p (empty b l) r q = let k = stop_before b r in lines_rise p l (body_rises end b r) (omega (arith, k.0, k.1))
lines_rise {end = end} p (full {stop = stop} {w = w} {ws = ws} {ks = ks} b t a d l h) r q =
    let k = stop_before b r in
    let others = lines_rise (at_of end stop) l (body_rises end b r) k.1 in
    let body = first_place w ws _ p (body_places p _ b r q (omega arith, others)) in
    subst (PlacesRise p) (sym h) (lower _ body.0 (marks_rise w.at w.line ks _ body.1))
