use Rattle.std.proofs.Common.{sym, subst}
use Rattle.pt_grammar.specs.Texts.{IsLiteral}
use Rattle.pt_grammar.proofs.StringLemmas.{literal_kind}
use Rattle.pt_expr.proofs.reader.Reader.is_literal.Goals as goal

pub returns-in_default-kind : goal.returns-in_default-kind
returns-in_default-kind c = (λ h. cc, λ b. absurd (literal_kind c.in-Some.token.now.line.0 c.in-Some.token.now.kind c.in_default-kind.not-FText (subst IsLiteral (sym c.in-Some.ensures) b)))
