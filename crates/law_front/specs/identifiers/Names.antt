-- How the names of a text are written (Language Reference 2.3).
use Rattle.std.specs.Prelude.{◌≡◌, ℕ, List, [], ◌∷◌, Bool, true, false, ◌||◌, ◌==◌, nat_le}
use Rattle.std.specs.Char.{is_ascii_alphabetic}
use Rattle.std.specs.List.{AllByRecursion}
use Rattle.pt_literals.specs.declared.token.Token.{Token}
use Rattle.pt_literals.specs.declared.token.TokenKind.{TokenKind}
use Rattle.pt_literals.specs.declared.token.TokenKind.TheVariants as kind
use Rattle.pt_lexer.specs.Faults.{IsTokens}

-- a letter, `_`, or a byte of a character beyond ASCII
abbrev pub begins : ℕ → Bool
begins c = is_ascii_alphabetic c || ((c == 95) || nat_le 128 c)

abbrev pub begins_name : List ℕ → Bool
begins_name [] = false
begins_name (c ∷ x) = begins c

abbrev pub BeginsIfName : TokenKind → Type 0
BeginsIfName (kind.Name x) = begins_name x ≡ true
BeginsIfName _ = Unit {0}

abbrev pub NamesBeginAsIdentifiers : Type 0
NamesBeginAsIdentifiers = (text : List ℕ) (tokens : List Token) → IsTokens text tokens → AllByRecursion (λ (t : Token). BeginsIfName t.kind) tokens
