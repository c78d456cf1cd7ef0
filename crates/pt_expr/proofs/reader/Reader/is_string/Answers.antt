use Rattle.std.proofs.Common.{◌≡◌, ℕ, List, Option, Some, None, refl, sym, ◌∙◌, ap, subst}
use Rattle.pt_literals.specs.declared.token.TokenKind.{TokenKind}
use Rattle.pt_literals.specs.declared.token.TokenKind.TheVariants as kind
use Rattle.pt_grammar.specs.declared.sign.Sign.{Sign}
use Rattle.pt_grammar.specs.Lexemes.{lexeme_at, signed, spelled, sign_of, sign_at}
use Rattle.pt_grammar.specs.Signs.{BeginsString}
use Rattle.pt_expr.proofs.reader.Reader.is_string.Goals as goal

plain_sign : (l : ℕ) (s : Option Sign) → sign_of (signed l s) ≡ None → BeginsString (Some (signed l s)) → ⊥
plain_sign l None h b = b
plain_sign l (Some s) h b = cc

plain_kind : (l : ℕ) (k : TokenKind) → ((x : List ℕ) → k ≡ kind.Str x → ⊥) → sign_of (lexeme_at l k) ≡ None → BeginsString (Some (lexeme_at l k)) → ⊥
plain_kind l (kind.Str x) n h b = n x refl
plain_kind l (kind.Sign x) n h b = plain_sign l (spelled x) h b
plain_kind l (kind.Name x) n h b = b
plain_kind l (kind.Int x) n h b = b
plain_kind l (kind.FText x) n h b = b
plain_kind l _ n h b = cc

pub returns-in_default-kind : goal.returns-in_default-kind
returns-in_default-kind c = (λ h. cc, λ b. absurd (plain_kind c.in-Some.token.now.line.0 c.in-Some.token.now.kind c.in_default-kind.not-Str (ap sign_at c.in-Some.ensures ∙ c.requires) (subst BeginsString (sym c.in-Some.ensures) b)))
