-- Tokens and what the grammar sees of them.
use Rattle.std.proofs.Common.{◌≡◌, ℕ, Bool, false, List, [], ◌∷◌, Option, Some, None, option_map, refl}
use Rattle.pt_literals.specs.declared.token.Token.{Token}
use Rattle.pt_literals.specs.declared.token.TokenKind.{TokenKind}
use Rattle.pt_literals.specs.declared.token.TokenKind.TheVariants as kind
use Rattle.pt_grammar.specs.declared.sign.Sign.{Sign}
use Rattle.pt_readers.specs.Reading.{next_of, behind}
use Rattle.pt_grammar.specs.declared.part.Part.{Part}
use Rattle.pt_grammar.specs.Lexemes.{Lexeme, sign, sign_at, lexeme_of, lexeme_at, lexemes, signed, spelled, line_of_lexeme}
use Rattle.pt_grammar.specs.Signs.{ends_sign, ends_items}

pub next_lexeme : (ts : List Token) → next_of (lexemes ts) ≡ option_map lexeme_of (next_of ts)
next_lexeme [] = refl
next_lexeme (t ∷ ts) = refl

pub behind_lexeme : (ts : List Token) → behind (lexemes ts) ≡ lexemes (behind ts)
behind_lexeme [] = refl
behind_lexeme (t ∷ ts) = refl

line_signed : (l : ℕ) (s : Option Sign) → line_of_lexeme (signed l s) ≡ l
line_signed l (Some s) = refl
line_signed l None = refl

line_kind : (l : ℕ) (k : TokenKind) → line_of_lexeme (lexeme_at l k) ≡ l
line_kind l (kind.Sign x) = line_signed l (spelled x)
line_kind l _ = refl

pub line_same : (t : Token) → line_of_lexeme (lexeme_of t) ≡ t.line.0
line_same t = line_kind t.line.0 t.kind

abbrev pub ends_by : Part → Option Sign → Bool
ends_by p (Some s) = ends_sign p s
ends_by p None = false

-- behind items, by the sign that is next
pub ends_by_sign : (p : Part) (o : Option Lexeme) → ends_items p o ≡ ends_by p (sign_at o)
ends_by_sign p (Some (sign l s)) = refl
ends_by_sign p (Some _) = refl
ends_by_sign p None = refl
