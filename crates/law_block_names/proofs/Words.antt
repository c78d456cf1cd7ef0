-- No name among the tokens of a text has a line end.
use Rattle.std.proofs.Common.{◌≡◌, ℕ, ◌^◌, Bool, true, false, not, ◌&&◌, ◌==◌, nat_lt, List, [], ◌∷◌, ◌++◌, take, drop, Option, Some, None, sym, subst}
use Rattle.std.specs.Prelude.{if◌then◌else◌}
use Rattle.std.specs.Char.{is_digit}
use Rattle.std.specs.List.{AllByRecursion}
use Rattle.pt_base.specs.declared.numbers.Line.{Line}
use Rattle.pt_literals.specs.declared.modes.Mode.{Mode}
use Rattle.pt_literals.specs.declared.modes.Mode.TheVariants as mode
use Rattle.pt_literals.specs.declared.modes.Part.{Part}
use Rattle.pt_literals.specs.declared.modes.Part.TheVariants as part
use Rattle.pt_literals.specs.declared.source.Spot.{Spot}
use Rattle.pt_literals.specs.declared.source.TextEnd.{TextEnd}
use Rattle.pt_literals.specs.declared.strings.Delimiter.{Delimiter}
use Rattle.pt_literals.specs.declared.strings.StringKind.{StringKind}
use Rattle.pt_literals.specs.declared.strings.StringKind.TheVariants.{Plain, Raw, Bytes, Format, RawFormat}
use Rattle.pt_literals.specs.declared.token.Lexeme.{Lexeme}
use Rattle.pt_literals.specs.declared.token.Token.{Token}
use Rattle.pt_literals.specs.declared.token.TokenKind.{TokenKind}
use Rattle.pt_literals.specs.declared.token.TokenKind.TheVariants as kind
use Rattle.pt_literals.specs.Numbers.{are_digits, value_from, radix_of, behind_prefix, digits_len, makes_float, is_fraction}
use Rattle.pt_literals.specs.Literals.{Literal, no_literal, faulty, known, holds, or_else, number_by, number_at, closes, begun, behind_two, delimited_by, prefixed, is_quote, kind_by, kind_by_two, string_behind_two, string_behind_one, string_at, is_name_a, begins_by, field_sign_at, is_brace, is_single, ended_or, text_at, spec_at, literal}
use Rattle.pt_lexer.specs.Words.{Spells, kind_of_part, Next, plain, begun as begun_word, string}
use Rattle.pt_lexer.specs.Lines.{Nest, Body, finish, word, kind_of, Back, there, further, Turn, deeper, level, marks, closing, Lines, done, empty, full}
use Rattle.pt_lexer.specs.Faults.{IsTokens}
use Rattle.law_block_names.proofs.Identifiers.{have_none, identifier-none}

abbrev pub NoneIfName : TokenKind → Type 0
NoneIfName (kind.Name x) = have_none x ≡ true
NoneIfName _ = Unit {0}

abbrev HasNone : Lexeme → Type 0
HasNone w = NoneIfName (kind_of w)

abbrev pub AllHaveNone : List Token → Type 0
AllHaveNone ts = AllByRecursion (λ (t : Token). NoneIfName t.kind) ts

-- what is known by its beginning is no name
abbrev Known : Literal → Type 0
Known no_literal = Unit {0}
Known (faulty e) = Unit {0}
Known (known w rest) = HasNone w
Known (holds p rest) = Unit {0}

either : {A : Type 0} (P : A → Type 0) (b : Bool) {x y : A} → P x → P y → P (if b then x else y)
either P true p q = p
either P false p q = q

of-two : (l m : Literal) → Known l → Known m → Known (or_else l m)
of-two no_literal m p q = q
of-two (faulty e) m p q = p
of-two (known w rest) m p q = p
of-two (holds r rest) m p q = p

by-digits : (s : Spot) (radix : ℕ) (digits rest : List Spot) → Known (number_by s radix digits rest)
by-digits s radix digits rest =
    either Known (are_digits radix digits) (either Known ((radix == 10) && makes_float rest) tt (either Known (nat_lt (value_from radix 0 digits)
    (2 ^ 127)) tt tt)) tt

number : (ss : List Spot) → Known (number_at ss)
number [] = tt
number (s ∷ ss) =
    let radix = radix_of (s ∷ ss) in
    let text = behind_prefix radix (s ∷ ss) in
    either Known (is_digit s.char 10) (by-digits s radix (take (digits_len radix text) text) (drop (digits_len radix text) text)) (either Known
    (is_fraction s ss) tt tt)

begun-string : (f : Bool) (d : Delimiter) (rest : List Spot) → Known (begun f d rest)
begun-string f d rest = either Known f tt tt

delimited : (f r : Bool) (line : Line) (q : ℕ) (ss : List Spot) (o : Option (List Spot)) → Known (delimited_by f r line q ss o)
delimited f r line q ss None = begun-string f _ ss
delimited f r line q ss (Some rest) = begun-string f _ rest

prefixed-string : (o : Option StringKind) (line : Line) (q : ℕ) (ss : List Spot) → Known (prefixed o line q ss)
prefixed-string None line q ss = tt
prefixed-string (Some Plain) line q ss = delimited false false line q ss (behind_two q ss)
prefixed-string (Some Raw) line q ss = delimited false true line q ss (behind_two q ss)
prefixed-string (Some Bytes) line q ss = tt
prefixed-string (Some Format) line q ss = delimited true false line q ss (behind_two q ss)
prefixed-string (Some RawFormat) line q ss = delimited true true line q ss (behind_two q ss)

behind-two : (s t : Spot) (ss : List Spot) → Known (string_behind_two s t ss)
behind-two s t [] = tt
behind-two s t (u ∷ ss) = either Known (is_quote u.char) (prefixed-string (kind_by_two s.char t.char) s.line u.char ss) tt

behind-one : (s : Spot) (ss : List Spot) → Known (string_behind_one s ss)
behind-one s [] = tt
behind-one s (t ∷ ss) = either Known (is_quote t.char) (prefixed-string (kind_by s.char) s.line t.char ss) (behind-two s t ss)

quoted : (ss : List Spot) → Known (string_at ss)
quoted [] = tt
quoted (s ∷ ss) = either Known (is_quote s.char) (delimited false false s.line s.char ss (behind_two s.char ss)) (behind-one s ss)

field-sign : (ss : List Spot) → Known (field_sign_at ss)
field-sign [] = tt
field-sign (s ∷ ss) =
    either Known (s.char == 58) tt
    (either Known ((s.char == 33) && not (begins_by 61 ss)) (either Known (is_name_a ss) tt tt) (either Known ((s.char == 61) && not (begins_by 61 ss)) tt tt))

ended : (o : Option (List Spot)) (l : Literal) → Known l → Known (ended_or o l)
ended None l h = h
ended (Some rest) l h = tt

in-text : (d : Delimiter) (ss : List Spot) → Known (text_at d ss)
in-text d [] = tt
in-text d (s ∷ ss) = ended (closes d (s ∷ ss)) _ (either Known (is_single s ss) (either Known (s.char == 123) tt tt) tt)

in-spec : (d : Delimiter) (ss : List Spot) → Known (spec_at d ss)
in-spec d [] = tt
in-spec d (s ∷ ss) = ended (closes d (s ∷ ss)) _ (either Known (is_brace s.char) (either Known (s.char == 123) tt tt) tt)

beginning : (m : Mode) (ss : List Spot) → Known (literal m ss)
beginning mode.Words ss = of-two (number_at ss) (string_at ss) (number ss) (quoted ss)
beginning (mode.Text d) ss = in-text d ss
beginning (mode.Field f) ss = of-two (field_sign_at ss) (or_else (number_at ss) (string_at ss)) (field-sign ss) (of-two (number_at ss) (string_at ss)
    (number ss) (quoted ss))
beginning (mode.Spec f) ss = in-spec f.string ss

spelt : (w : TokenKind) (cs : List ℕ) → Spells w cs → NoneIfName w
spelt (kind.Name x) cs h = subst (λ y. NoneIfName (kind.Name y)) (sym h.2) (identifier-none cs h.0)
spelt (kind.Sign x) cs h = tt
spelt _ cs h = absurd h

of-part : (p : Part) (x : List ℕ) → NoneIfName (kind_of_part p x)
of-part (part.Whole d) x = tt
of-part (part.Text d) x = tt
of-part (part.Spec d) x = tt

next-word : {m : Mode} {text rest : List Spot} {w : Lexeme} → Next m text w rest → HasNone w
next-word (plain {w = w} l n) = spelt w _ n.spelled
next-word (begun_word {m = m} {text = text} e) = let k = subst Known e (beginning m text) in k
next-word (string {p = p} {x = x} e i h) = of-part p x

both : (xs ys : List Token) → AllHaveNone xs → AllHaveNone ys → AllHaveNone (xs ++ ys)
both [] ys h k = k
both (x ∷ xs) ys h k = (h.0, both xs ys h.1 k)

body : {end : TextEnd} {n : Nest} {text stop rest : List Spot} {ws : List Token} → Body end n text ws stop rest → AllHaveNone ws
body (finish g e) = tt
body (word g k t b) = (next-word k, body b)

back : {cols after : _} {k : _} {ks : List TokenKind} (at : ℕ) (line : Line) → Back cols k after ks → AllHaveNone (marks at line ks)
back at line (there h) = tt
back at line (further h b) = (tt, back at line b)

turn : {cols after : _} {k : _} {ks : List TokenKind} (at : ℕ) (line : Line) → Turn cols k after ks → AllHaveNone (marks at line ks)
turn at line (deeper h) = (tt, tt)
turn at line (level b) = back at line b

closed : (end : TextEnd) (cols : _) → AllHaveNone (closing end cols)
closed end [] = (tt, tt)
closed end (k ∷ []) = (tt, tt)
closed end (k ∷ (l ∷ cols)) = (tt, closed end (l ∷ cols))

lines : {end : TextEnd} {cols : _} {text : List Spot} {all : List Token} → Lines end cols text all → AllHaveNone all
lines {end = end} {cols = cols} (done w h) = subst AllHaveNone (sym h) (closed end cols)
lines (empty b l) = lines l
lines {end = end} (full {stop = stop} {w = w} {ws = ws} {others = others} {ks = ks} b t a d l h) =
    subst AllHaveNone (sym h) (both (marks w.at w.line ks) _ (turn w.at w.line t) (both (w ∷ ws) _ (body b) (tt, lines l)))

pub names_have_none : (text : List ℕ) (tokens : List Token) → IsTokens text tokens → AllHaveNone tokens
names_have_none text tokens are = lines are
