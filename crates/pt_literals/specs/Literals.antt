-- What begins at a place: numbers, strings and parts of f-strings (Language Reference 2.4).
use Rattle.std.specs.Prelude.{◌≡◌, ℕ, ◌^◌, pos, List, [], ◌∷◌, Bool, true, false, not, codes, take, drop, nat_lt, ◌==◌, ◌&&◌, ◌||◌, if◌then◌else◌, Option, Some, None}
use Rattle.std.specs.Char.{is_digit}
use Rattle.pt_base.specs.declared.numbers.Line.{Line}
use Rattle.pt_literals.specs.declared.source.Spot.{Spot}
use Rattle.pt_literals.specs.declared.strings.Delimiter.{Delimiter}
use Rattle.pt_literals.specs.declared.strings.StringKind.{StringKind}
use Rattle.pt_literals.specs.declared.strings.StringKind.TheVariants.{Plain, Raw, Bytes, Format, RawFormat}
use Rattle.pt_literals.specs.declared.modes.Mode.{Mode}
use Rattle.pt_literals.specs.declared.modes.Mode.TheVariants as mode
use Rattle.pt_literals.specs.declared.modes.Part.{Part}
use Rattle.pt_literals.specs.declared.modes.Part.TheVariants as part
use Rattle.pt_literals.specs.declared.token.Lexeme.{Lexeme}
use Rattle.pt_literals.specs.declared.token.Lexeme.TheVariants.{Word, Start}
use Rattle.pt_literals.specs.declared.token.TokenKind.TheVariants as kind
use Rattle.pt_literals.specs.declared.token.Begun.{Begun}
use Rattle.pt_literals.specs.declared.token.Begun.TheVariants.{Nothing, Known, Holds}
use Rattle.pt_literals.specs.declared.token.LexErr.{LexErr}
use Rattle.pt_literals.specs.declared.token.LexErr.TheVariants as fault
use Rattle.pt_literals.specs.Source.{is_blank, ends_line, continues_name}
use Rattle.pt_literals.specs.Numbers.{are_digits, value_from, radix_of, behind_prefix, digits_len, makes_float, is_fraction}

-- What begins at the front, apart from names, keywords and operators: something that is refused at once; a word that is
-- known by its beginning, and what stands behind it; or a part of a string, from its first character on.
pub data Literal : Type 0 where
  no_literal : Literal
  faulty : LexErr → Literal
  known : Lexeme → List Spot → Literal
  holds : Part → List Spot → Literal

abbrev pub or_else : Literal → Literal → Literal
or_else no_literal l = l
or_else (faulty e) l = faulty e
or_else (known w rest) l = known w rest
or_else (holds p rest) l = holds p rest

abbrev pub sign : List ℕ → Lexeme
sign x = Word (kind.Sign x)

-- integers have 128 bits
abbrev pub within : Line → ℕ → List Spot → Literal
within line n rest = if nat_lt n (2 ^ 127) then known (Word (kind.Int (pos n))) rest else faulty (fault.Limit line)

abbrev pub number_by : Spot → (radix : ℕ) → (digits rest : List Spot) → Literal
number_by s radix digits rest =
    if are_digits radix digits then
    if (radix == 10) && makes_float rest then faulty (fault.Excluded s.line) else within s.line (value_from radix 0 digits) rest
    else faulty (fault.BadNumber s.at)

abbrev pub number_behind : Spot → (radix : ℕ) → List Spot → Literal
number_behind s radix text = number_by s radix (take (digits_len radix text) text) (drop (digits_len radix text) text)

abbrev pub number : Spot → List Spot → Literal
number s text = number_behind s (radix_of text) (behind_prefix (radix_of text) text)

-- the number that begins here: with a digit, or with a point and a digit
abbrev pub number_at : List Spot → Literal
number_at [] = no_literal
number_at (s ∷ ss) =
    if is_digit s.char 10 then number s (s ∷ ss)
    else if is_fraction s ss then faulty (fault.Excluded s.line)
    else no_literal

-- what stands behind a quote, and behind two and three of them
abbrev pub behind_quote : ℕ → List Spot → Option (List Spot)
behind_quote q [] = None
behind_quote q (s ∷ ss) = if s.char == q then Some ss else None

abbrev pub behind_another : ℕ → Option (List Spot) → Option (List Spot)
behind_another q None = None
behind_another q (Some ss) = behind_quote q ss

abbrev pub behind_two : ℕ → List Spot → Option (List Spot)
behind_two q ss = behind_another q (behind_quote q ss)

abbrev pub behind_three : ℕ → List Spot → Option (List Spot)
behind_three q ss = behind_another q (behind_two q ss)

-- what stands behind the closing quotes, where they stand here
abbrev pub closes : Delimiter → List Spot → Option (List Spot)
closes d text = if d.is_triple then behind_three d.quote text else behind_quote d.quote text

-- a string from behind its opening quotes
abbrev pub begun : (is_formatted : Bool) → Delimiter → List Spot → Literal
begun f d rest = if f then known (Start d) rest else holds (part.Whole d) rest

-- three quotes, or else one
abbrev pub delimited_by : (is_formatted is_raw : Bool) → Line → (quote : ℕ) → List Spot → Option (List Spot) → Literal
delimited_by f r line q ss None = begun f (record { quote = q; is_triple = false; is_raw = r; line = line }) ss
delimited_by f r line q ss (Some rest) = begun f (record { quote = q; is_triple = true; is_raw = r; line = line }) rest

abbrev pub delimited : (is_formatted is_raw : Bool) → Line → (quote : ℕ) → List Spot → Literal
delimited f r line q ss = delimited_by f r line q ss (behind_two q ss)

-- a string of a kind whose prefix begins on a line, from behind its first quote
abbrev pub opened : StringKind → Line → (quote : ℕ) → List Spot → Literal
opened Plain line q ss = delimited false false line q ss
opened Raw line q ss = delimited false true line q ss
opened Bytes line q ss = faulty (fault.Excluded line)
opened Format line q ss = delimited true false line q ss
opened RawFormat line q ss = delimited true true line q ss

abbrev pub prefixed : Option StringKind → Line → (quote : ℕ) → List Spot → Literal
prefixed None line q ss = no_literal
prefixed (Some k) line q ss = opened k line q ss

abbrev pub is_quote : ℕ → Bool
is_quote c = (c == 34) || (c == 39)

abbrev pub is_either : (c lower upper : ℕ) → Bool
is_either c l u = (c == l) || (c == u)

-- the prefix of a string: `r`, `u`, `b` or `f`
abbrev pub kind_by : ℕ → Option StringKind
kind_by c =
    if is_either c 114 82 then Some Raw
    else if is_either c 117 85 then Some Plain
    else if is_either c 98 66 then Some Bytes
    else if is_either c 102 70 then Some Format
    else None

-- `b` and `f` beside an `r`
abbrev pub raw_kind_by : ℕ → Option StringKind
raw_kind_by c =
    if is_either c 98 66 then Some Bytes
    else if is_either c 102 70 then Some RawFormat
    else None

abbrev pub kind_by_two : (c d : ℕ) → Option StringKind
kind_by_two c d =
    if is_either c 114 82 then raw_kind_by d
    else if is_either d 114 82 then raw_kind_by c
    else None

abbrev pub string_behind_two : (s t : Spot) → List Spot → Literal
string_behind_two s t [] = no_literal
string_behind_two s t (u ∷ ss) = if is_quote u.char then prefixed (kind_by_two s.char t.char) s.line u.char ss else no_literal

abbrev pub string_behind_one : Spot → List Spot → Literal
string_behind_one s [] = no_literal
string_behind_one s (t ∷ ss) = if is_quote t.char then prefixed (kind_by s.char) s.line t.char ss else string_behind_two s t ss

-- the string that begins here
abbrev pub string_at : List Spot → Literal
string_at [] = no_literal
string_at (s ∷ ss) = if is_quote s.char then delimited false false s.line s.char ss else string_behind_one s ss

abbrev pub goes_on_name : List Spot → Bool
goes_on_name [] = false
goes_on_name (s ∷ ss) = continues_name s.char

abbrev pub begins_line_end : List Spot → Bool
begins_line_end [] = false
begins_line_end (s ∷ ss) = ends_line s.char

-- A name that is `a` alone, maybe behind what may stand between words in brackets: blanks, line ends, comments, and joins by a backslash
-- (Language Reference 2.1.3 to 2.1.6, 2.1.9).
abbrev pub is_a_behind_gap : (in_comment : Bool) → List Spot → Bool
is_a_behind_gap b [] = false
is_a_behind_gap true (s ∷ ss) = is_a_behind_gap (not (ends_line s.char)) ss
is_a_behind_gap false (s ∷ ss) =
    if is_blank s.char || ends_line s.char then is_a_behind_gap false ss
    else if s.char == 35 then is_a_behind_gap true ss
    else if s.char == 92 then begins_line_end ss && is_a_behind_gap false ss
    else (s.char == 97) && not (goes_on_name ss)

abbrev pub is_name_a : List Spot → Bool
is_name_a ss = is_a_behind_gap false ss

abbrev pub begins_by : ℕ → List Spot → Bool
begins_by c [] = false
begins_by c (s ∷ ss) = s.char == c

-- the sign of a conversion; `!a` is left out, however it is laid out
abbrev pub conversion : Spot → List Spot → Literal
conversion s ss = if is_name_a ss then faulty (fault.Excluded s.line) else known (sign (codes "!")) ss

-- What stands for itself in a field, outside its brackets (Language Reference 2.4.3): the colon before a format spec,
-- and the sign of a conversion. The sign `=` is left out.
abbrev pub field_sign : Spot → List Spot → Literal
field_sign s ss =
    if s.char == 58 then known (sign (codes ":")) ss
    else if (s.char == 33) && not (begins_by 61 ss) then conversion s ss
    else if (s.char == 61) && not (begins_by 61 ss) then faulty (fault.Excluded s.line)
    else no_literal

abbrev pub field_sign_at : List Spot → Literal
field_sign_at [] = no_literal
field_sign_at (s ∷ ss) = field_sign s ss

abbrev pub is_brace : ℕ → Bool
is_brace c = (c == 123) || (c == 125)

-- a brace that is not written twice
abbrev pub is_single : Spot → List Spot → Bool
is_single s ss = is_brace s.char && not (begins_by s.char ss)

-- the end of an f-string
abbrev pub ended_or : Option (List Spot) → Literal → Literal
ended_or None l = l
ended_or (Some rest) l = known (Word kind.FEnd) rest

-- the braces of fields
abbrev pub brace_in_text : Spot → List Spot → Literal
brace_in_text s ss = if s.char == 123 then known (sign (codes "{")) ss else faulty (fault.OpenBracket s.line)

abbrev pub brace_in_spec : Spot → List Spot → Literal
brace_in_spec s ss = if s.char == 123 then known (sign (codes "{")) ss else known (sign (codes "}")) ss

-- in the literal text of an f-string
abbrev pub text_at : Delimiter → List Spot → Literal
text_at d [] = holds (part.Text d) []
text_at d (s ∷ ss) = ended_or (closes d (s ∷ ss)) (if is_single s ss then brace_in_text s ss else holds (part.Text d) (s ∷ ss))

-- in a format spec
abbrev pub spec_at : Delimiter → List Spot → Literal
spec_at d [] = holds (part.Spec d) []
spec_at d (s ∷ ss) = ended_or (closes d (s ∷ ss)) (if is_brace s.char then brace_in_spec s ss else holds (part.Spec d) (s ∷ ss))

abbrev pub literal : Mode → List Spot → Literal
literal mode.Words text = or_else (number_at text) (string_at text)
literal (mode.Text d) text = text_at d text
literal (mode.Field f) text = or_else (field_sign_at text) (or_else (number_at text) (string_at text))
literal (mode.Spec f) text = spec_at f.string text

-- What the code says of the front of a text.
abbrev pub IsBegun : Begun → Literal → Type 0
IsBegun Nothing l = l ≡ no_literal
IsBegun (Known w rest) l = l ≡ known w rest.now
IsBegun (Holds p rest) l = l ≡ holds p rest.now
