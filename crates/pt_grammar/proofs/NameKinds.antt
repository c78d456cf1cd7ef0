-- Tokens that are names.
use Rattle.std.proofs.Common.{◌≡◌, ℕ, List, Some, None, refl}
use Rattle.pt_literals.specs.declared.token.TokenKind.{TokenKind}
use Rattle.pt_literals.specs.declared.token.TokenKind.TheVariants as kind
use Rattle.pt_grammar.specs.Lexemes.{lexeme_at, signed, spelled}
use Rattle.pt_grammar.specs.CallParts.{IsName}

no_sign : (l : ℕ) (s : _) → IsName (Some (signed l s)) → ⊥
no_sign l None b = b
no_sign l (Some s) b = b

pub no_kind : (l : ℕ) (k : TokenKind) → ((x : List ℕ) → k ≡ kind.Name x → ⊥) → IsName (Some (lexeme_at l k)) → ⊥
no_kind l (kind.Name x) n b = n x refl
no_kind l (kind.Sign x) n b = no_sign l (spelled x) b
no_kind l _ n b = b
