-- The lines of tokens, in their order (Language Reference 2.1.1, 2.1.5).
use Rattle.std.specs.Prelude.{◌≡◌, ℕ, suc, ◌≤◌, List, [], ◌∷◌, Bool, true, false, if◌then◌else◌}
use Rattle.pt_literals.specs.declared.token.Token.{Token}
use Rattle.pt_lexer.specs.Faults.{IsTokens}
use Rattle.pt_grammar.specs.declared.sign.Sign.TheVariants.{Layout as layout}
use Rattle.pt_grammar.specs.declared.sign.Layout.TheVariants.{Newline, Indent, Dedent, End}
use Rattle.pt_grammar.specs.Lexemes.{Lexeme, sign, lexemes, line_of_lexeme}

-- INDENT, DEDENT and END, which stand between lines
abbrev pub is_between : Lexeme → Bool
is_between (sign l (layout Indent)) = true
is_between (sign l (layout Dedent)) = true
is_between (sign l (layout End)) = true
is_between t = false

abbrev pub is_newline : Lexeme → Bool
is_newline (sign l (layout Newline)) = true
is_newline t = false

-- the least line for a token behind this one, which is on this line or on a later one
abbrev pub line_behind : (least : ℕ) → Lexeme → ℕ
line_behind b t = if is_between t then b else if is_newline t then suc (line_of_lexeme t) else line_of_lexeme t

-- from a line on, no token is on an earlier line than the one before it, and behind a NEWLINE each is on a later line
abbrev pub LinesRise : (least : ℕ) → List Lexeme → Type 0
LinesRise b [] = Unit {0}
LinesRise b (t ∷ ts) = (is_between t ≡ false → b ≤ line_of_lexeme t) × LinesRise (line_behind b t) ts

abbrev pub LinesOfTokensRise : Type 0
LinesOfTokensRise = (text : List ℕ) (tokens : List Token) → IsTokens text tokens → LinesRise 0 (lexemes tokens)
