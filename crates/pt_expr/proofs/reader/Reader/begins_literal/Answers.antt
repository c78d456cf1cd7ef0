use Rattle.std.proofs.Common.{◌≡◌, ℕ, ℤ, List, Option, Some, None, false, refl, sym, ◌∙◌, ap}
use Rattle.pt_literals.specs.declared.token.TokenKind.{TokenKind}
use Rattle.pt_literals.specs.declared.token.TokenKind.TheVariants as kind
use Rattle.pt_grammar.specs.declared.part.Part.{Part}
use Rattle.pt_grammar.specs.declared.sign.Sign.{Sign}
use Rattle.pt_grammar.specs.Lexemes.{lexeme_at, signed, spelled, sign_of, sign_at}
use Rattle.pt_grammar.specs.Signs.{begins_item}
use Rattle.pt_expr.proofs.reader.Reader.begins_literal.Goals as goal

plain_sign : (p : Part) (l : ℕ) (s : Option Sign) → sign_of (signed l s) ≡ None → false ≡ begins_item p (Some (signed l s))
plain_sign p l None h = refl
plain_sign p l (Some s) h = cc

plain_kind : (p : Part) (l : ℕ) (k : TokenKind) → ((x : List ℕ) → k ≡ kind.Name x → ⊥) → ((n : ℤ) → k ≡ kind.Int n → ⊥) → ((x : List ℕ) → k ≡ kind.Str x → ⊥) → sign_of (lexeme_at l k) ≡ None
    → false ≡ begins_item p (Some (lexeme_at l k))
plain_kind p l (kind.Name x) n m o h = absurd (n x refl)
plain_kind p l (kind.Int i) n m o h = absurd (m i refl)
plain_kind p l (kind.Sign x) n m o h = plain_sign p l (spelled x) h
plain_kind p l (kind.Str x) n m o h = absurd (o x refl)
plain_kind p l (kind.FText x) n m o h = refl
plain_kind p l _ n m o h = cc

pub returns-in_default : goal.returns-in_default
returns-in_default c = ap (begins_item c.args.part) c.in_default.ensures

pub returns-in-Name : goal.returns-in-Name
returns-in-Name c = sym (ap (begins_item c.args.part) (sym c.in-Some.ensures ∙ ap (λ k. Some (lexeme_at c.in-Some.token.now.line.0 k)) c.in-Name.is))

pub returns-in-Int : goal.returns-in-Int
returns-in-Int c = sym (ap (begins_item c.args.part) (sym c.in-Some.ensures ∙ ap (λ k. Some (lexeme_at c.in-Some.token.now.line.0 k)) c.in-Int.is))

pub returns-in-Str : goal.returns-in-Str
returns-in-Str c = sym (ap (begins_item c.args.part) (sym c.in-Some.ensures ∙ ap (λ k. Some (lexeme_at c.in-Some.token.now.line.0 k)) c.in-Str.is))

pub returns-in_default-kind : goal.returns-in_default-kind
returns-in_default-kind c = plain_kind c.args.part c.in-Some.token.now.line.0 c.in-Some.token.now.kind c.in_default-kind.not-Name c.in_default-kind.not-Int c.in_default-kind.not-Str (ap sign_at c.in-Some.ensures ∙ c.requires) ∙ ap (begins_item c.args.part) c.in-Some.ensures
