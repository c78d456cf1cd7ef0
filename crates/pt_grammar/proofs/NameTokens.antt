-- Tokens that are no names.
use Rattle.std.proofs.Common.{◌≡◌, ℕ, List, Option, Some, None, refl}
use Rattle.pt_literals.specs.declared.token.TokenKind.{TokenKind}
use Rattle.pt_literals.specs.declared.token.TokenKind.TheVariants as kind
use Rattle.pt_grammar.specs.declared.sign.Sign.{Sign}
use Rattle.pt_grammar.specs.Lexemes.{name, lexeme_at, signed, spelled}

no_sign : (l : ℕ) (s : Option Sign) (m : ℕ) (x : List ℕ) → signed l s ≡ name m x → ⊥
no_sign l None m x e = cc
no_sign l (Some s) m x e = cc

pub no_name_kind : (l : ℕ) (k : TokenKind) → ((x : List ℕ) → k ≡ kind.Name x → ⊥) → (m : ℕ) (x : List ℕ) → lexeme_at l k ≡ name m x → ⊥
no_name_kind l (kind.Name y) n m x e = n y refl
no_name_kind l (kind.Sign y) n m x e = no_sign l (spelled y) m x e
no_name_kind l (kind.Int y) n m x e = cc
no_name_kind l (kind.Str y) n m x e = cc
no_name_kind l (kind.FText y) n m x e = cc
no_name_kind l _ n m x e = cc
