use Rattle.std.proofs.Common.{◌≡◌, ℕ, ℤ, List, Option, Some, None, refl, sym, ◌∙◌, ap, subst}
use Rattle.pt_literals.specs.declared.token.TokenKind.{TokenKind}
use Rattle.pt_literals.specs.declared.token.TokenKind.TheVariants as kind
use Rattle.pt_grammar.specs.declared.sign.Sign.{Sign}
use Rattle.pt_grammar.specs.Lexemes.{lexeme_at, signed, spelled, sign_of, sign_at}
use Rattle.pt_grammar.specs.Signs.{BeginsString}
use Rattle.pt_grammar.proofs.Begins.{BeginsAtom}
use Rattle.pt_grammar.proofs.Atoms.{name_found, atom_bad}
use Rattle.pt_expr.proofs.reader.Reader.literal.Goals as goal

plain_sign : (l : ℕ) (s : Option Sign) → sign_of (signed l s) ≡ None → BeginsAtom (Some (signed l s)) → ⊥
plain_sign l None h b = b
plain_sign l (Some s) h b = cc

-- what else is no sign begins no atom
plain_kind : (l : ℕ) (k : TokenKind) → ((x : List ℕ) → k ≡ kind.Name x → ⊥) → ((n : ℤ) → k ≡ kind.Int n → ⊥) → (BeginsString (Some (lexeme_at l k)) → ⊥) → sign_of (lexeme_at l k) ≡ None → BeginsAtom (Some (lexeme_at l k)) → ⊥
plain_kind l (kind.Name x) n m o h b = n x refl
plain_kind l (kind.Int i) n m o h b = m i refl
plain_kind l (kind.Sign x) n m o h b = plain_sign l (spelled x) h b
plain_kind l (kind.Str x) n m o h b = o tt
plain_kind l (kind.FText x) n m o h b = b
plain_kind l _ n m o h b = cc

pub returns-in_default : goal.returns-in_default
returns-in_default c = λ d h. atom_bad d h _ (λ b. subst BeginsAtom (sym c.in_default.ensures) b)

pub returns-in_ok-name-in-Name : goal.returns-in_ok-name-in-Name
returns-in_ok-name-in-Name c = λ d h. rw (c.in_ok-name-in-Name.ensures, c.skip.ensures.value)
    (name_found d h _ c.in-Some.token.now.line.0 c.in-Name.text (sym c.in-Some.ensures ∙ ap (λ k. Some (lexeme_at c.in-Some.token.now.line.0 k)) c.in-Name.is))

pub returns-in_default-kind : goal.returns-in_default-kind
returns-in_default-kind c = λ d h. atom_bad d h _ (λ b. plain_kind c.in-Some.token.now.line.0 c.in-Some.token.now.kind c.in_default-kind.not-Name c.in_default-kind.not-Int (λ q. c.requires.no_string (subst BeginsString c.in-Some.ensures q)) (ap sign_at c.in-Some.ensures ∙ c.requires.none) (subst BeginsAtom (sym c.in-Some.ensures) b))
