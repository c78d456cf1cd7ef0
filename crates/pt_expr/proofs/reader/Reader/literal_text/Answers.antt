use Rattle.std.proofs.Common.{Some, sym, ◌∙◌, ap, subst}
use Rattle.pt_grammar.specs.Lexemes.{lexeme_at}
use Rattle.pt_grammar.specs.Texts.{IsLiteral}
use Rattle.pt_grammar.proofs.StringLemmas.{literal_found, literal_kind}
use Rattle.pt_expr.proofs.reader.Reader.literal_text.Goals as goal

pub returns-in_ok-text-in-FText : goal.returns-in_ok-text-in-FText
returns-in_ok-text-in-FText c = λ n d. rw (c.in_ok-text-in-FText.ensures, c.skip.ensures.value)
    (literal_found n d _ c.in-Some.token.now.line.0 c.in-FText.found (sym c.in-Some.ensures ∙ ap (λ k. Some (lexeme_at c.in-Some.token.now.line.0 k)) c.in-FText.is))

pub returns-in_default-kind : goal.returns-in_default-kind
returns-in_default-kind c = λ n d. absurd (literal_kind c.in-Some.token.now.line.0 c.in-Some.token.now.kind c.in_default-kind.not-FText (subst IsLiteral (sym c.in-Some.ensures) c.requires))
