-- Tokens as the grammar sees them (Language Reference 2).
use Rattle.std.specs.Prelude.{ℕ, ℤ, List, map, Option, Some, None}
use Rattle.pt_tables.specs.Rows.{value_of}
use Rattle.pt_literals.specs.declared.token.Token.{Token}
use Rattle.pt_literals.specs.declared.token.TokenKind.{TokenKind}
use Rattle.pt_literals.specs.declared.token.TokenKind.TheVariants as kind
use Rattle.pt_grammar.specs.declared.sign.Sign.{Sign}
use Rattle.pt_grammar.specs.declared.sign.Sign.TheVariants.{Layout as layout}
use Rattle.pt_grammar.specs.declared.sign.Layout.TheVariants.{Newline, Indent, Dedent, End, FStart, FEnd}
use Rattle.pt_grammar.specs.declared.sign.TheConstants.{SIGNS}

-- a token, with the line on which it stands
pub data Lexeme : Type 0 where
  name : (line : ℕ) (x : List ℕ) → Lexeme
  int : (line : ℕ) (n : ℤ) → Lexeme
  str : (line : ℕ) (text : List ℕ) → Lexeme
  -- literal text of an f-string
  f_text : (line : ℕ) (text : List ℕ) → Lexeme
  sign : (line : ℕ) (s : Sign) → Lexeme
  -- a spelling that is no sign
  unknown : (line : ℕ) → Lexeme

-- the sign that is spelled so
abbrev pub spelled : List ℕ → Option Sign
spelled text = value_of (map (λ r. (r.0.now, r.1)) SIGNS) text

abbrev pub signed : ℕ → Option Sign → Lexeme
signed l (Some s) = sign l s
signed l None = unknown l

abbrev pub lexeme_at : ℕ → TokenKind → Lexeme
lexeme_at l (kind.Name x) = name l x
lexeme_at l (kind.Int n) = int l n
lexeme_at l (kind.Str x) = str l x
lexeme_at l (kind.FText x) = f_text l x
lexeme_at l kind.FStart = sign l (layout FStart)
lexeme_at l kind.FEnd = sign l (layout FEnd)
lexeme_at l kind.Newline = sign l (layout Newline)
lexeme_at l kind.Indent = sign l (layout Indent)
lexeme_at l kind.Dedent = sign l (layout Dedent)
lexeme_at l kind.End = sign l (layout End)
lexeme_at l (kind.Sign x) = signed l (spelled x)

abbrev pub lexeme_of : Token → Lexeme
lexeme_of t = lexeme_at t.line.0 t.kind

abbrev pub lexemes : List Token → List Lexeme
lexemes ts = map lexeme_of ts

abbrev pub sign_of : Lexeme → Option Sign
sign_of (sign l s) = Some s
sign_of _ = None

abbrev pub line_of_lexeme : Lexeme → ℕ
line_of_lexeme (name l x) = l
line_of_lexeme (int l n) = l
line_of_lexeme (str l x) = l
line_of_lexeme (f_text l x) = l
line_of_lexeme (sign l s) = l
line_of_lexeme (unknown l) = l

-- of the next token, if there is one
abbrev pub sign_at : Option Lexeme → Option Sign
sign_at None = None
sign_at (Some t) = sign_of t

abbrev pub line_at : Option Lexeme → ℕ
line_at None = 0
line_at (Some t) = line_of_lexeme t
