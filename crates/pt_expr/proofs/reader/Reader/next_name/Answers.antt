use Rattle.std.proofs.Common.{Some, sym, ◌∙◌, ap}
use Rattle.pt_grammar.specs.Lexemes.{lexeme_at}
use Rattle.pt_grammar.proofs.NameTokens.{no_name_kind}
use Rattle.pt_expr.proofs.reader.Reader.next_name.Goals as goal

pub returns-in_default : goal.returns-in_default
returns-in_default c = λ l x e. let k = c.in_default.ensures ∙ e in cc

pub returns-in_ok-name-in-Name : goal.returns-in_ok-name-in-Name
returns-in_ok-name-in-Name c = rw (c.in_ok-name-in-Name.ensures, c.as_str.ensures) (sym c.in-Some.ensures ∙ ap (λ k. Some (lexeme_at c.in-Some.token.now.line.0 k)) c.in-Name.is)

pub returns-in_default-kind : goal.returns-in_default-kind
returns-in_default-kind c = λ l x e. no_name_kind c.in-Some.token.now.line.0 c.in-Some.token.now.kind c.in_default-kind.not-Name l x (let k = c.in-Some.ensures ∙ e in cc)
