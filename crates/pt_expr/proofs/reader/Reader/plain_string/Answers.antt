use Rattle.std.proofs.Common.{◌≡◌, ℕ, List, Option, Some, None, refl, sym, ◌∙◌, ap, subst}
use Rattle.pt_literals.specs.declared.token.TokenKind.{TokenKind}
use Rattle.pt_literals.specs.declared.token.TokenKind.TheVariants as kind
use Rattle.pt_grammar.specs.declared.sign.Sign.{Sign}
use Rattle.pt_grammar.specs.Lexemes.{lexeme_at, signed, spelled, sign_of, sign_at, line_at}
use Rattle.pt_grammar.specs.Signs.{BeginsString}
use Rattle.pt_grammar.proofs.StringLemmas.{plain_found}
use Rattle.pt_expr.proofs.reader.Reader.plain_string.Goals as goal

plain_sign : (l : ℕ) (s : Option Sign) → sign_of (signed l s) ≡ None → BeginsString (Some (signed l s)) → ⊥
plain_sign l None h b = b
plain_sign l (Some s) h b = cc

plain_kind : (l : ℕ) (k : TokenKind) → ((x : List ℕ) → k ≡ kind.Str x → ⊥) → sign_of (lexeme_at l k) ≡ None → BeginsString (Some (lexeme_at l k)) → ⊥
plain_kind l (kind.Str x) n h b = n x refl
plain_kind l (kind.Sign x) n h b = plain_sign l (spelled x) h b
plain_kind l (kind.Name x) n h b = b
plain_kind l (kind.Int x) n h b = b
plain_kind l (kind.FText x) n h b = b
plain_kind l _ n h b = cc

pub returns-in_ok-text-in-Str : goal.returns-in_ok-text-in-Str
returns-in_ok-text-in-Str c = λ d q f.
    let e = sym c.in-Some.ensures ∙ ap (λ k. Some (lexeme_at c.in-Some.token.now.line.0 k)) c.in-Str.is in
    rw (c.in_ok-text-in-Str.ensures, c.skip.ensures.value, ap line_at e) (plain_found d q f _ c.in-Some.token.now.line.0 c.in-Str.found e)

pub returns-in_default-kind : goal.returns-in_default-kind
returns-in_default-kind c = λ d q f. absurd (plain_kind c.in-Some.token.now.line.0 c.in-Some.token.now.kind c.in_default-kind.not-Str (ap sign_at c.in-Some.ensures ∙ c.requires.none) (subst BeginsString (sym c.in-Some.ensures) c.requires.begins))
