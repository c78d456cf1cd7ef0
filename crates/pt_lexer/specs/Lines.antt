-- What text is what tokens: logical lines (Language Reference 2.1.1 to 2.1.9) and their indentation.
use Rattle.std.specs.Prelude.{◌≡◌, ◌≢◌, ℕ, ◌+◌, ◌*◌, ◌/◌, ◌≤◌, ◌<◌, List, [], ◌∷◌, ◌++◌, length, map, codes, Bool, true, false, ◌==◌, ◌&&◌, nat_lt, if◌then◌else◌, Option, Some, None, Result, Ok, Err}
use Rattle.std.specs.Bool.{beq}
use Rattle.std.specs.List.{list_all}
use Rattle.std.specs.Str.{bytes_eq}
use Rattle.pt_base.specs.declared.numbers.Line.{Line}
use Rattle.pt_lexer.specs.declared.TheConstants.{EXCLUDED}
use Rattle.pt_literals.specs.declared.source.Spot.{Spot}
use Rattle.pt_literals.specs.declared.source.TextEnd.{TextEnd}
use Rattle.pt_lexer.specs.declared.token.Bracket.{Bracket}
use Rattle.pt_lexer.specs.declared.token.Bracket.TheVariants.{Round, Square, Curly}
use Rattle.pt_lexer.specs.declared.token.Column.{Column}
use Rattle.pt_literals.specs.declared.modes.Field.{Field}
use Rattle.pt_literals.specs.declared.modes.Mode.{Mode}
use Rattle.pt_literals.specs.declared.modes.Mode.TheVariants as mode
use Rattle.pt_literals.specs.declared.strings.Delimiter.{Delimiter}
use Rattle.pt_literals.specs.declared.token.Lexeme.{Lexeme}
use Rattle.pt_literals.specs.declared.token.Lexeme.TheVariants.{Word, Start}
use Rattle.pt_literals.specs.declared.token.LexErr.{LexErr}
use Rattle.pt_literals.specs.declared.token.LexErr.TheVariants as fault
use Rattle.pt_lexer.specs.declared.token.Opening.{Opening}
use Rattle.pt_literals.specs.declared.token.Token.{Token}
use Rattle.pt_literals.specs.declared.token.TokenKind.{TokenKind}
use Rattle.pt_literals.specs.declared.token.TokenKind.TheVariants as kind
use Rattle.pt_literals.specs.Source.{is_blank, ends_line}
use Rattle.pt_lexer.specs.Words.{is_listed, Next}

-- the place and the line at which a rest of the text stands
abbrev pub at_of : TextEnd → List Spot → ℕ
at_of end [] = end.at
at_of end (s ∷ ss) = s.at

abbrev pub line_of : TextEnd → List Spot → Line
line_of end [] = end.line
line_of end (s ∷ ss) = s.line

abbrev pub token : TextEnd → List Spot → TokenKind → Token
token end text k = record { kind = k; at = at_of end text; line = line_of end text }

abbrev pub NoFeed : List Spot → Type 0
NoFeed [] = Unit {0}
NoFeed (s ∷ ss) = s.char ≢ 10

-- The end of a physical line: LF, CR LF or CR.
pub data LineEnd : List Spot → List Spot → Type 0 where
  feed : {s : Spot} {ss : List Spot} → s.char ≡ 10 → LineEnd (s ∷ ss) ss
  both : {s t : Spot} {ss : List Spot} → s.char ≡ 13 → t.char ≡ 10 → LineEnd (s ∷ (t ∷ ss)) ss
  carriage : {s : Spot} {ss : List Spot} → s.char ≡ 13 → NoFeed ss → LineEnd (s ∷ ss) ss

-- The end of a line, or of the text.
pub data Stops (end : TextEnd) : List Spot → List Spot → Type 0 where
  at_line_end : {ss rest : List Spot} → LineEnd ss rest → Stops end ss rest
  at_text_end : end.is_whole ≡ true → Stops end [] []

-- Up to the end of the physical line.
pub data Comment : List Spot → List Spot → Type 0 where
  text_ends : Comment [] []
  line_ends : {s : Spot} {ss : List Spot} → ends_line s.char ≡ true → Comment (s ∷ ss) (s ∷ ss)
  goes_on : {s : Spot} {ss rest : List Spot} → ends_line s.char ≡ false → Comment ss rest → Comment (s ∷ ss) rest

-- What may stand between words where these brackets are open: a blank, a comment, a join by a backslash or by a bracket.
pub data Piece (end : TextEnd) : List Opening → List Spot → List Spot → Type 0 where
  blank : {opened : List Opening} {s : Spot} {ss : List Spot} → is_blank s.char ≡ true → Piece end opened (s ∷ ss) ss
  comment : {opened : List Opening} {s : Spot} {ss rest : List Spot} → s.char ≡ 35 → Comment ss rest → Piece end opened (s ∷ ss) rest
  backslash : {opened : List Opening} {s : Spot} {ss rest : List Spot} → s.char ≡ 92 → Stops end ss rest → Piece end opened (s ∷ ss) rest
  inside : {x : Opening} {opened : List Opening} {ss rest : List Spot} → LineEnd ss rest → Piece end (x ∷ opened) ss rest

-- How a place is read, and the brackets that are open there, the innermost first.
pub data Nest : Type 0 where
  nest : Mode → List Opening → Nest

abbrev pub mode_of : Nest → Mode
mode_of (nest m opened) = m

abbrev pub opened_of : Nest → List Opening
opened_of (nest m opened) = opened

abbrev pub has_words : Mode → Bool
has_words mode.Words = true
has_words (mode.Text d) = false
has_words (mode.Field f) = true
has_words (mode.Spec f) = false

-- where a line begins
abbrev pub outside : Nest
outside = nest mode.Words []

-- Gaps stand between words, and none in the text of an f-string.
pub data Gap (end : TextEnd) (n : Nest) : List Spot → List Spot → Type 0 where
  nothing : {text : List Spot} → Gap end n text text
  piece : {text mid rest : List Spot} → has_words (mode_of n) ≡ true → Piece end (opened_of n) text mid → Gap end n mid rest → Gap end n text rest

-- Nothing of a gap stands at the front.
pub record NoPiece (end : TextEnd) (n : Nest) (text : List Spot) : Type 0 where
  pub none : (rest : List Spot) → has_words (mode_of n) ≡ true → Piece end (opened_of n) text rest → ⊥

-- no logical line stops here
abbrev pub NoLineStop : TextEnd → Nest → List Spot → Type 0
NoLineStop end n text = (rest : List Spot) → Stops end text rest → n ≡ outside → ⊥

-- the bracket that a sign opens, and the one that it closes
abbrev pub opens : List ℕ → Option Bracket
opens x =
    if bytes_eq x (codes "(") then Some Round
    else if bytes_eq x (codes "[") then Some Square
    else if bytes_eq x (codes "{") then Some Curly
    else None

abbrev pub closes : List ℕ → Option Bracket
closes x =
    if bytes_eq x (codes ")") then Some Round
    else if bytes_eq x (codes "]") then Some Square
    else if bytes_eq x (codes "}") then Some Curly
    else None

abbrev pub same_bracket : Bracket → Bracket → Bool
same_bracket Round Round = true
same_bracket Square Square = true
same_bracket Curly Curly = true
same_bracket _ _ = false

abbrev pub is_excluded : List ℕ → Bool
is_excluded x = is_listed (map (λ k. k.now) EXCLUDED) x

-- what a closing bracket leaves open
abbrev pub shut : List Opening → Bracket → Line → Result Nest LexErr
shut [] b line = Err (fault.OpenBracket line)
shut (x ∷ opened) b line = if same_bracket x.bracket b then Ok (nest x.mode opened) else Err (fault.OpenBracket line)

-- how the text behind an opening bracket is read: the brace of a field is one
abbrev pub mode_behind : Mode → Mode
mode_behind mode.Words = mode.Words
mode_behind (mode.Text d) = mode.Field (record { string = d; is_nested = false })
mode_behind (mode.Field f) = mode.Words
mode_behind (mode.Spec f) = mode.Field (record { string = f.string; is_nested = true })

-- how words are read where these brackets are open
abbrev pub mode_in : List Opening → Mode
mode_in [] = mode.Words
mode_in (x ∷ opened) = mode_behind x.mode

abbrev pub opened_by : Mode → List Opening → Bracket → Line → Result Nest LexErr
opened_by m opened b line =
    if nat_lt (length opened) 100 then Ok (nest (mode_behind m) (record { bracket = b; line = line; mode = m } ∷ opened)) else Err (fault.Limit line)

abbrev pub turned_by : Mode → List Opening → Option Bracket → Option Bracket → Line → Result Nest LexErr
turned_by m opened (Some b) _ line = opened_by m opened b line
turned_by m opened None (Some b) line = shut opened b line
turned_by m opened None None line = Ok (nest m opened)

abbrev pub turned_by_sign : Mode → List Opening → List ℕ → Line → Result Nest LexErr
turned_by_sign m opened x line = if is_excluded x then Err (fault.Excluded line) else turned_by m opened (opens x) (closes x) line

-- a word among words
abbrev pub turned_in_words : Mode → List Opening → Lexeme → Line → Result Nest LexErr
turned_in_words m opened (Word (kind.Sign x)) line = turned_by_sign m opened x line
turned_in_words m opened (Word _) line = Ok (nest m opened)
turned_in_words m opened (Start d) line = Ok (nest (mode.Text d) opened)

abbrev pub is_sign : List ℕ → Lexeme → Bool
is_sign y (Word (kind.Sign x)) = bytes_eq x y
is_sign y (Word _) = false
is_sign y (Start d) = false

abbrev pub ends_string : Lexeme → Bool
ends_string (Word kind.FEnd) = true
ends_string (Word _) = false
ends_string (Start d) = false

-- a colon in a field, outside its brackets, begins its format spec
abbrev pub turned_in_field : Field → List Opening → Lexeme → Line → Result Nest LexErr
turned_in_field f opened w line = if is_sign (codes ":") w then Ok (nest (mode.Spec f) opened) else turned_in_words (mode.Field f) opened w line

abbrev pub turned_in_text : Delimiter → List Opening → Lexeme → Line → Result Nest LexErr
turned_in_text d opened w line =
    if ends_string w then Ok (nest (mode_in opened) opened)
    else if is_sign (codes "{") w then opened_by (mode.Text d) opened Curly line
    else Ok (nest (mode.Text d) opened)

abbrev pub is_spec : Mode → Bool
is_spec (mode.Spec f) = true
is_spec m = false

-- a bracket like others in these
abbrev pub plain_bracket : Opening → List Opening → List Opening
plain_bracket x opened = record { bracket = x.bracket; line = x.line; mode = mode_in opened } ∷ opened

-- Where a string ends in a format spec, the brace of the field is a bracket like others, and so is the brace of the field in whose spec it
-- stands.
abbrev pub as_brackets : List Opening → List Opening
as_brackets [] = []
as_brackets (x ∷ opened) = plain_bracket x (if is_spec x.mode then as_brackets opened else opened)

-- A format spec has fields, and the spec of these has none.
abbrev pub field_in_spec : Field → List Opening → Line → Result Nest LexErr
field_in_spec f opened line = if f.is_nested then Err (fault.Excluded line) else opened_by (mode.Spec f) opened Curly line

abbrev pub turned_in_spec : Field → List Opening → Lexeme → Line → Result Nest LexErr
turned_in_spec f opened w line =
    if ends_string w then Ok (nest mode.Words (as_brackets opened))
    else if is_sign (codes "{") w then field_in_spec f opened line
    else if is_sign (codes "}") w then shut opened Curly line
    else Ok (nest (mode.Spec f) opened)

-- the mode and the brackets that are open behind a word, or what is wrong with it
abbrev pub turned : Nest → Lexeme → Line → Result Nest LexErr
turned (nest mode.Words opened) w line = turned_in_words mode.Words opened w line
turned (nest (mode.Text d) opened) w line = turned_in_text d opened w line
turned (nest (mode.Field f) opened) w line = turned_in_field f opened w line
turned (nest (mode.Spec f) opened) w line = turned_in_spec f opened w line

abbrev pub kind_of : Lexeme → TokenKind
kind_of (Word k) = k
kind_of (Start d) = kind.FStart

-- The words of a logical line, the place where it stops, and the text behind it.
pub data Body (end : TextEnd) : Nest → List Spot → List Token → List Spot → List Spot → Type 0 where
  finish : {text stop rest : List Spot} → Gap end outside text stop → Stops end stop rest → Body end outside text [] stop rest
  word : {n more : Nest} {text mid after stop rest : List Spot} {w : Lexeme} {ws : List Token} → Gap end n text mid → Next (mode_of n) mid w after
      → turned n w (line_of end mid) ≡ Ok more → Body end more after ws stop rest → Body end n text (token end mid (kind_of w) ∷ ws) stop rest

-- the column behind the blanks at the front: a tab goes on to the next multiple of eight, or is one wide
abbrev pub behind_blank : Column → ℕ → Column
behind_blank k c =
    if c == 32 then record { wide = k.wide + 1; narrow = k.narrow + 1 }
    else if c == 9 then record { wide = (k.wide / 8 + 1) * 8; narrow = k.narrow + 1 }
    else k

abbrev pub column_from : Column → List Spot → Column
column_from k [] = k
column_from k (s ∷ ss) = if is_blank s.char then column_from (behind_blank k s.char) ss else k

abbrev pub left_margin : Column
left_margin = record { wide = 0; narrow = 0 }

abbrev pub column_of : List Spot → Column
column_of text = column_from left_margin text

-- both computations compare the columns alike
abbrev pub compares_alike : Column → Column → Bool
compares_alike k l = beq (nat_lt k.wide l.wide) (nat_lt k.narrow l.narrow) && beq (nat_lt l.wide k.wide) (nat_lt l.narrow k.narrow)

abbrev pub agrees : Column → List Column → Bool
agrees k cols = list_all (compares_alike k) cols

-- From open columns, the innermost first, back to one of them: a DEDENT for each that is left.
pub data Back : List Column → Column → List Column → List TokenKind → Type 0 where
  there : {top k : Column} {cols : List Column} → k.wide ≡ top.wide → Back (top ∷ cols) k (top ∷ cols) []
  further : {top k : Column} {cols after : List Column} {ks : List TokenKind} → k.wide < top.wide → Back cols k after ks
      → Back (top ∷ cols) k after (kind.Dedent ∷ ks)

-- What a line of this column opens or closes.
pub data Turn : List Column → Column → List Column → List TokenKind → Type 0 where
  deeper : {top k : Column} {cols : List Column} → top.wide < k.wide → Turn (top ∷ cols) k (k ∷ (top ∷ cols)) (kind.Indent ∷ [])
  level : {cols after : List Column} {k : Column} {ks : List TokenKind} → Back cols k after ks → Turn cols k after ks

-- tokens of these kinds at one place
abbrev pub marks : ℕ → Line → List TokenKind → List Token
marks at line ks = map (λ k. record { kind = k; at = at; line = line }) ks

-- the end of a text closes what is open behind the left margin
abbrev pub closing : TextEnd → List Column → List Token
closing end [] = token end [] kind.End ∷ []
closing end (k ∷ []) = token end [] kind.End ∷ []
closing end (k ∷ (l ∷ cols)) = token end [] kind.Dedent ∷ closing end (l ∷ cols)

-- The tokens of a text where these columns are open. There may be 100 of them beside the left margin.
pub data Lines (end : TextEnd) : List Column → List Spot → List Token → Type 0 where
  done : {cols : List Column} {all : List Token} → end.is_whole ≡ true → all ≡ closing end cols → Lines end cols [] all
  empty : {cols : List Column} {s : Spot} {ss stop rest : List Spot} {all : List Token} → Body end outside (s ∷ ss) [] stop rest → Lines end cols rest all
      → Lines end cols (s ∷ ss) all
  full : {cols after : List Column} {s : Spot} {ss stop rest : List Spot} {w : Token} {ws others all : List Token} {ks : List TokenKind}
      → Body end outside (s ∷ ss) (w ∷ ws) stop rest → Turn cols (column_of (s ∷ ss)) after ks → agrees (column_of (s ∷ ss)) cols ≡ true → length after ≤ 101
      → Lines end after rest others → all ≡ marks w.at w.line ks ++ ((w ∷ ws) ++ (token end stop kind.Newline ∷ others)) → Lines end cols (s ∷ ss) all
