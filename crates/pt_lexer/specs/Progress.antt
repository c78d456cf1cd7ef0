-- How far a text has been read, and what the functions that read it answer.
use Rattle.std.specs.Prelude.{◌≡◌, ℕ, ◌≤◌, ◌<◌, List, [], ◌∷◌, ◌++◌, length, true, Ok, Err, ◌⊎◌, encode_utf8_all}
use Rattle.pt_base.specs.declared.numbers.Line.{Line}
use Rattle.pt_literals.specs.declared.source.Spot.{Spot}
use Rattle.pt_literals.specs.declared.source.TextEnd.{TextEnd}
use Rattle.pt_literals.specs.declared.modes.Mode.{Mode}
use Rattle.pt_literals.specs.declared.modes.Part.{Part}
use Rattle.pt_lexer.specs.declared.token.Reading.{Reading}
use Rattle.pt_lexer.specs.declared.token.Reading.TheVariants.{NoneFound, Found, Broken}
use Rattle.pt_lexer.specs.declared.token.Column.{Column}
use Rattle.pt_literals.specs.declared.token.Lexeme.{Lexeme}
use Rattle.pt_literals.specs.declared.token.LexErr.{LexErr}
use Rattle.pt_literals.specs.declared.token.LexErr.TheVariants as fault
use Rattle.pt_literals.specs.declared.token.Token.{Token}
use Rattle.pt_literals.specs.declared.token.TokenKind.{TokenKind}
use Rattle.pt_literals.specs.declared.token.TokenKind.TheVariants as kind
use Rattle.pt_lexer.specs.Lines.{at_of, token, marks, Stops, Nest, outside, Gap, NoPiece, turned, Body, column_of, agrees, Turn, Lines}
use Rattle.pt_literals.specs.Literals.{faulty, holds, literal}
use Rattle.pt_literals.specs.Strings.{Inside}
use Rattle.pt_lexer.specs.Words.{Next, NoWord}
use Rattle.pt_lexer.specs.Columns.{AreRising}
use Rattle.pt_base.specs.declared.failure.Failure.{Failure}
use Rattle.pt_base.specs.Failures.{IfRefused}
use Rattle.pt_lexer.specs.Faults.{broken_off, InsideFails, Fails, Refused, number_of}

-- Each character stands behind the one before it, and before the end.
abbrev pub Rises : TextEnd → List Spot → Type 0
Rises end [] = Unit {0}
Rises end (s ∷ ss) = (s.at < at_of end ss) × Rises end ss

-- The text ends in a part of a string that begins here.
pub record BreaksOff (end : TextEnd) (m : Mode) (text : List Spot) (p : Part) : Type 0 where
  pub inner : List Spot
  pub begins : literal m text ≡ holds p inner
  pub ends : (line : Line) → InsideFails end line p inner (broken_off end line) end.at

abbrev pub IsReading : TextEnd → Mode → List Spot → Reading → Type 0
IsReading end m text NoneFound = NoWord m text
IsReading end m text (Found w rest) = Next m text w rest.now
IsReading end m text (Broken p) = BreaksOff end m text p

-- A part of a string was read, from its first character on.
pub record StringRead (p : Part) (text : List Spot) (value : List ℕ) (rest : List Spot) : Type 0 where
  pub chars : List ℕ
  pub written : value ≡ encode_utf8_all chars
  pub inside : Inside p text chars rest

-- What begins at the front is at fault, whatever line would be told at the end of the text.
pub data BeginsSpoilt (end : TextEnd) (m : Mode) : List Spot → LexErr → Type 0 where
  spoilt_at_once : {text : List Spot} {e : LexErr} → literal m text ≡ faulty e → BeginsSpoilt end m text e
  spoilt_inside : {text inner : List Spot} {p : Part} {e : LexErr} {at : ℕ} → literal m text ≡ holds p inner → ((line : Line) → InsideFails end line p inner e at) → BeginsSpoilt end m text e

-- So much of it has been read: what follows is what follows in it.
pub record InString (end : TextEnd) (p : Part) (text rest : List Spot) (value : List ℕ) : Type 0 where
  pub front : List ℕ
  pub written : value ≡ encode_utf8_all front
  pub reads : (vs : List ℕ) (behind : List Spot) → Inside p rest vs behind → Inside p text (front ++ vs) behind
  pub fails : (line : Line) (e : LexErr) (at : ℕ) → InsideFails end line p rest e at → InsideFails end line p text e at

-- The text ends in it, whatever line is told.
abbrev pub EndsInside : TextEnd → Part → List Spot → Type 0
EndsInside end p text = (line : Line) → InsideFails end line p text (broken_off end line) end.at

-- It is at fault, whatever line would be told at the end of the text.
abbrev pub IsSpoilt : TextEnd → Part → List Spot → LexErr → Type 0
IsSpoilt end p text e = (at : ℕ) × ((line : Line) → InsideFails end line p text e at)

-- The text is refused for its words.
abbrev pub FailsWith : TextEnd → Nest → List Spot → Failure LexErr → Type 0
FailsWith end n text failure = IfRefused (λ e. (at : ℕ) × Fails end n text e at) failure

-- So many words of a line have been read: what follows them is what follows in the line.
pub record Going (end : TextEnd) (text : List Spot) (old new : List Token) (n : Nest) (rest : List Spot) : Type 0 where
  pub front : List Token
  pub kept : new ≡ old ++ front
  pub reads : (ws : List Token) (stop behind : List Spot) → Body end n rest ws stop behind → Body end outside text (front ++ ws) stop behind
  pub fails : (e : LexErr) (at : ℕ) → Fails end n rest e at → Fails end outside text e at

-- The words of a line were read.
pub record WordsRead (end : TextEnd) (text : List Spot) (old new : List Token) (stop rest : List Spot) : Type 0 where
  pub words : List Token
  pub kept : new ≡ old ++ words
  pub body : Body end outside text words stop rest

-- A logical line has been read: an empty one, or one with words.
pub data LineRead (end : TextEnd) (cols : List Column) (text : List Spot) : List Column → List Spot → List Token → Type 0 where
  empty_line : {stop rest : List Spot} → Body end outside text [] stop rest → LineRead end cols text cols rest []
  full_line : {after : List Column} {stop rest : List Spot} {w : Token} {ws : List Token} {ks : List TokenKind} {all : List Token} → Body end outside text (w ∷ ws) stop rest → Turn cols (column_of text) after ks
      → agrees (column_of text) cols ≡ true → length after ≤ 101 → all ≡ marks w.at w.line ks ++ ((w ∷ ws) ++ token end stop kind.Newline ∷ []) → LineRead end cols text after rest all

-- A line was read, and its tokens were put behind these.
pub record ReadsLine (end : TextEnd) (cols after : List Column) (text rest : List Spot) (before behind : List Token) : Type 0 where
  pub front : List Token
  pub kept : behind ≡ before ++ front
  pub line : LineRead end cols text after rest front
  pub rising : AreRising after

-- The first token of a line stands here, or something strange.
pub record Begins (end : TextEnd) (text first : List Spot) (s : Spot) : Type 0 where
  pub more : List Spot
  pub rises : Rises end text
  pub gap : Gap end outside text first
  pub is : first ≡ s ∷ more
  pub full : NoPiece end outside first
  pub stands : (rest : List Spot) → Stops end first rest → ⊥

-- a fault that comes before one block too many on this line, or is the same
abbrev pub IsBeforeLimit : Line → LexErr → Type 0
IsBeforeLimit line e = (number_of e < 9) ⊎ (e ≡ fault.Limit line)

-- what is wrong with a line that opens one block too many: its first word, or else its depth
abbrev pub DepthOrWord : Lexeme → Spot → Failure LexErr → Type 0
DepthOrWord w s failure = IfRefused (λ e. (turned outside w s.line ≡ Err e) ⊎ ((e ≡ fault.Limit s.line) × ((more : Nest) × (turned outside w s.line ≡ Ok more)))) failure

-- The fault of a line's first word, or else one block too many.
abbrev pub FirstFault : TextEnd → List Spot → Spot → LexErr → Type 0
FirstFault end first s e =
    (Fails end outside first e s.at × IsBeforeLimit s.line e) ⊎ ((e ≡ fault.Limit s.line) × ((f : LexErr) (place : ℕ) → Fails end outside first f place → s.at < place))

-- So many lines of a text have been read: what follows them is what follows in the text.
pub record GoesOn (end : TextEnd) (cols now : List Column) (text rest : List Spot) (old new : List Token) : Type 0 where
  pub front : List Token
  pub kept : new ≡ old ++ front
  pub reads : (all : List Token) → Lines end now rest all → Lines end cols text (front ++ all)
  pub refuses : (e : LexErr) → Refused end now rest e → Refused end cols text e
  pub rising : AreRising now
  pub rises : Rises end rest
  pub shorter : length rest ≤ length text

-- A whole text was read.
pub record TextRead (end : TextEnd) (cols : List Column) (text : List Spot) (old new : List Token) : Type 0 where
  pub front : List Token
  pub kept : new ≡ old ++ front
  pub lines : Lines end cols text front
