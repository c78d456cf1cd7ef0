-- Where a text has no tokens: what is at fault, and the place at which that is found.
use Rattle.std.specs.Prelude.{◌≡◌, ℕ, ◌≤◌, ◌<◌, List, [], ◌∷◌, length, true, false, if◌then◌else◌, ◌⊎◌, Option, Some, None, Ok, Err}
use Rattle.pt_base.specs.declared.numbers.Line.{Line}
use Rattle.pt_literals.specs.declared.source.Spot.{Spot}
use Rattle.pt_literals.specs.declared.source.TextEnd.{TextEnd}
use Rattle.pt_literals.specs.declared.strings.Chars.{Chars}
use Rattle.pt_literals.specs.declared.modes.Mode.{Mode}
use Rattle.pt_literals.specs.declared.modes.Mode.TheVariants as mode
use Rattle.pt_literals.specs.declared.modes.Part.{Part}
use Rattle.pt_literals.specs.declared.modes.Part.TheVariants as part
use Rattle.pt_literals.specs.declared.token.Lexeme.{Lexeme}
use Rattle.pt_lexer.specs.declared.token.Column.{Column}
use Rattle.pt_literals.specs.declared.token.LexErr.{LexErr}
use Rattle.pt_literals.specs.declared.token.LexErr.TheVariants as fault
use Rattle.pt_lexer.specs.declared.token.Opening.{Opening}
use Rattle.pt_literals.specs.declared.token.Token.{Token}
use Rattle.pt_literals.specs.declared.token.TokenKind.{TokenKind}
use Rattle.pt_literals.specs.Literals.{literal, faulty, holds}
use Rattle.pt_literals.specs.Strings.{piece, takes, fails, ends}
use Rattle.pt_lexer.specs.Words.{Next, NoWord}
use Rattle.pt_lexer.specs.Lines.{at_of, line_of, Stops, Nest, nest, mode_of, opened_of, has_words, outside, Gap, NoPiece, NoLineStop, turned, Body, column_of, agrees, left_margin, Turn, Lines}
use Rattle.pt_literals.specs.Source.{spots_of, end_of}

-- the line of the outermost bracket that is open
abbrev pub outermost : Line → List Opening → Line
outermost line [] = line
outermost line (x ∷ opened) = outermost x.line opened

-- the line of the outermost f-string in which a place stands
abbrev pub line_of_mode : Option Line → Mode → Option Line
line_of_mode found mode.Words = found
line_of_mode found (mode.Text d) = Some d.line
line_of_mode found (mode.Field f) = Some f.string.line
line_of_mode found (mode.Spec f) = Some f.string.line

abbrev pub outermost_string : Option Line → List Opening → Option Line
outermost_string found [] = found
outermost_string found (x ∷ opened) = outermost_string (line_of_mode found x.mode) opened

abbrev pub string_line : Nest → Option Line
string_line (nest m opened) = outermost_string (line_of_mode None m) opened

-- what is wrong where a text ends in brackets, or in a field of an f-string
abbrev pub left_open_by : Line → Option Line → LexErr
left_open_by bracket (Some line) = fault.OpenString line
left_open_by bracket None = fault.OpenBracket bracket

abbrev pub or_line : Option Line → Line → Line
or_line (Some line) _ = line
or_line None line = line

abbrev pub line_of_part : Part → Line
line_of_part (part.Whole d) = d.line
line_of_part (part.Text d) = d.line
line_of_part (part.Spec d) = d.line

-- what is wrong where a text ends in a string
abbrev pub broken_off : TextEnd → Line → LexErr
broken_off end line = if end.is_whole then fault.OpenString line else fault.NotUtf8 end.at

-- What is at fault in a part of a string, and where. The line is told where the text ends in it.
pub data InsideFails (end : TextEnd) (line : Line) (p : Part) : List Spot → LexErr → ℕ → Type 0 where
  at_text_end : InsideFails end line p [] (broken_off end line) end.at
  here : {s : Spot} {ss : List Spot} {e : LexErr} → ends p s ss ≡ None → piece p s ss ≡ fails e → InsideFails end line p (s ∷ ss) e s.at
  behind : {s : Spot} {ss mid : List Spot} {cs : Chars} {e : LexErr} {at : ℕ} → ends p s ss ≡ None → piece p s ss ≡ takes cs mid → InsideFails end line p mid e at
      → InsideFails end line p (s ∷ ss) e at

-- What is at fault in what begins at the front, and where.
pub data LiteralFails (end : TextEnd) (n : Nest) : List Spot → LexErr → ℕ → Type 0 where
  at_once : {text : List Spot} {e : LexErr} → literal (mode_of n) text ≡ faulty e → LiteralFails end n text e (at_of end text)
  in_string : {text inner : List Spot} {p : Part} {e : LexErr} {at : ℕ} → literal (mode_of n) text ≡ holds p inner
      → InsideFails end (or_line (string_line n) (line_of_part p)) p inner e at → LiteralFails end n text e at

-- What is at fault in the words of a line, and where.
pub data Fails (end : TextEnd) : Nest → List Spot → LexErr → ℕ → Type 0 where
  broken : {n : Nest} {text : List Spot} → has_words (mode_of n) ≡ true → Gap end n text [] → end.is_whole ≡ false → Fails end n text (fault.NotUtf8 end.at) end.at
  unclosed : {n : Nest} {text : List Spot} → has_words (mode_of n) ≡ true → Gap end n text [] → end.is_whole ≡ true → (n ≡ outside → ⊥)
      → Fails end n text (left_open_by (outermost end.line (opened_of n)) (string_line n)) end.at
  strange : {n : Nest} {s : Spot} {text ss : List Spot} → Gap end n text (s ∷ ss) → NoPiece end n (s ∷ ss) → NoWord (mode_of n) (s ∷ ss)
      → NoLineStop end n (s ∷ ss) → Fails end n text (fault.BadChar s.at) s.at
  spoilt : {n : Nest} {text mid : List Spot} {e : LexErr} {at : ℕ} → Gap end n text mid → LiteralFails end n mid e at → Fails end n text e at
  wrong : {n : Nest} {text mid after : List Spot} {w : Lexeme} {e : LexErr} → Gap end n text mid → Next (mode_of n) mid w after
      → turned n w (line_of end mid) ≡ Err e → Fails end n text e (at_of end mid)
  later : {n more : Nest} {text mid after : List Spot} {w : Lexeme} {e : LexErr} {at : ℕ} → Gap end n text mid → Next (mode_of n) mid w after
      → turned n w (line_of end mid) ≡ Ok more → Fails end more after e at → Fails end n text e at

-- What is wrong with the column of a line.
pub data Misplaced : List Column → Column → Line → LexErr → Type 0 where
  off : {cols : List Column} {k : Column} {line : Line} → ((after : List Column) (ks : List TokenKind) → Turn cols k after ks → ⊥)
      → Misplaced cols k line (fault.BadIndent line)
  mixed : {cols : List Column} {k : Column} {line : Line} → agrees k cols ≡ false → Misplaced cols k line (fault.MixedTabs line)
  too_deep : {cols after : List Column} {k : Column} {line : Line} {ks : List TokenKind} → Turn cols k after ks → 101 < length after
      → Misplaced cols k line (fault.Limit line)

-- the refusals in the order of their numbers
abbrev pub number_of : LexErr → ℕ
number_of (fault.NotUtf8 at) = 1
number_of (fault.BadIndent line) = 2
number_of (fault.MixedTabs line) = 3
number_of (fault.BadChar at) = 4
number_of (fault.OpenString line) = 5
number_of (fault.BadNumber at) = 6
number_of (fault.OpenBracket line) = 7
number_of (fault.Excluded line) = 8
number_of (fault.Limit line) = 9

-- This is wrong with the column of a line, before all else that is.
pub record IsMisplaced (cols : List Column) (k : Column) (line : Line) (e : LexErr) : Type 0 where
  pub wrong : Misplaced cols k line e
  pub small : number_of e ≤ 3
  pub least : (f : LexErr) → Misplaced cols k line f → (number_of e < number_of f) ⊎ (e ≡ f)

-- What is at fault in a text where these columns are open, and where. All lines before it have their tokens.
pub data Faulty (end : TextEnd) : List Column → List Spot → LexErr → ℕ → Type 0 where
  in_words : {cols : List Column} {text : List Spot} {e : LexErr} {at : ℕ} → Fails end outside text e at → Faulty end cols text e at
  in_column : {cols : List Column} {s : Spot} {text ss : List Spot} {e : LexErr} → Gap end outside text (s ∷ ss) → NoPiece end outside (s ∷ ss)
      → ((rest : List Spot) → Stops end (s ∷ ss) rest → ⊥) → Misplaced cols (column_of text) s.line e → Faulty end cols text e s.at
  below_empty : {cols : List Column} {s : Spot} {ss stop rest : List Spot} {e : LexErr} {at : ℕ} → Body end outside (s ∷ ss) [] stop rest
      → Faulty end cols rest e at → Faulty end cols (s ∷ ss) e at
  below_full : {cols after : List Column} {s : Spot} {ss stop rest : List Spot} {w : Token} {ws : List Token} {ks : List TokenKind} {e : LexErr} {at : ℕ}
      → Body end outside (s ∷ ss) (w ∷ ws) stop rest → Turn cols (column_of (s ∷ ss)) after ks → agrees (column_of (s ∷ ss)) cols ≡ true → length after ≤ 101
      → Faulty end after rest e at → Faulty end cols (s ∷ ss) e at

-- found earlier, or at the same place with a smaller number, or the very same
abbrev pub Precedes : LexErr → ℕ → LexErr → ℕ → Type 0
Precedes e at f place = (at < place) ⊎ ((at ≡ place) × ((number_of e < number_of f) ⊎ (e ≡ f)))

abbrev pub margin : List Column
margin = left_margin ∷ []

-- The text has these tokens.
abbrev pub IsTokens : (bytes : List ℕ) → List Token → Type 0
IsTokens bytes all = Lines (end_of bytes) margin (spots_of bytes) all

-- A text where these columns are open is refused for this: nothing in it is found at fault before.
pub record Refused (end : TextEnd) (cols : List Column) (text : List Spot) (e : LexErr) : Type 0 where
  pub at : ℕ
  pub found : Faulty end cols text e at
  pub first : (f : LexErr) (place : ℕ) → Faulty end cols text f place → Precedes e at f place

-- The text is refused for this.
abbrev pub IsRefused : (bytes : List ℕ) → LexErr → Type 0
IsRefused bytes e = Refused (end_of bytes) margin (spots_of bytes) e
