use Rattle.std.proofs.Common.{◌≡◌, ◌≢◌, ◌∙◌, sym, ap, refl, Some, None, List, ℕ, Option}
use Rattle.pt_base.specs.declared.numbers.Line.{Line}
use Rattle.pt_literals.specs.declared.token.TokenKind.{TokenKind}
use Rattle.pt_literals.specs.declared.token.TokenKind.TheVariants as kind
use Rattle.pt_grammar.specs.declared.sign.Sign.{Sign}
use Rattle.pt_grammar.specs.Lexemes.{Lexeme, name, lexeme_at, signed, spelled}
use Rattle.pt_parser.proofs.Tokens.{identifier_found, identifier_bad}
use Rattle.pt_parser.proofs.reader.Statements.identifier.Goals as goal

no_name : {m : ℕ} {x : List ℕ} (l : ℕ) (o : Option Sign) → signed l o ≢ name m x
no_name l (Some s) h = cc
no_name l None h = cc

-- only a name is seen as one
is_name : {m : ℕ} {x : List ℕ} (l : ℕ) (k : TokenKind) → ((y : List ℕ) → k ≢ kind.Name y) → lexeme_at l k ≢ name m x
is_name l (kind.Name y) n h = n y refl
is_name l (kind.Sign y) n h = no_name l (spelled y) h
is_name l _ n h = cc

pub returns-in_default : goal.returns-in_default
returns-in_default c = identifier_bad _ (λ l x h. let e : None ≡ Some (name l x) = c.in_default.ensures ∙ h in cc)

pub returns-in_ok-name-in-Name : goal.returns-in_ok-name-in-Name
returns-in_ok-name-in-Name c = rw c.in_ok-name-in-Name.ensures (identifier_found {l = c.in-Some.token.now.line.0} _ (sym c.in-Some.ensures ∙ ap (λ k. Some (lexeme_at c.in-Some.token.now.line.0 k)) c.in-Name.is) c.skip.ensures)

pub returns-in_default-kind : goal.returns-in_default-kind
returns-in_default-kind c = identifier_bad _ (λ l x h.
    let e : Some (lexeme_at c.in-Some.token.now.line.0 c.in-Some.token.now.kind) ≡ Some (name l x) = c.in-Some.ensures ∙ h in
    is_name {m = l} {x = x} c.in-Some.token.now.line.0 c.in-Some.token.now.kind c.in_default-kind.not-Name cc)
