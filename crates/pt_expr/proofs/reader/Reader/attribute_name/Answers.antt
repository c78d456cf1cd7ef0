use Rattle.std.proofs.Common.{Some, sym, ◌∙◌, ap, subst, arith}
use Rattle.pt_grammar.specs.Lexemes.{lexeme_at}
use Rattle.pt_grammar.specs.CallParts.{IsName}
use Rattle.pt_grammar.proofs.NameKinds.{no_kind}
use Rattle.pt_grammar.proofs.Trailers.{name_trails, no_name}
use Rattle.pt_expr.proofs.reader.Reader.attribute_name.Goals as goal

pub returns-in_default : goal.returns-in_default
returns-in_default c = record { value = λ d. no_name d _ (λ b. subst IsName (sym c.in_default.ensures) b); not_longer = omega arith }

pub returns-in_ok-from_str-in-Name : goal.returns-in_ok-from_str-in-Name
returns-in_ok-from_str-in-Name c = record {
  value = λ d. rw (c.in_ok-from_str-in-Name.ensures, c.as_str.ensures, c.skip.ensures.value)
      (name_trails d _ c.in-Some.token.now.line.0 c.in-Name.text (sym c.in-Some.ensures ∙ ap (λ k. Some (lexeme_at c.in-Some.token.now.line.0 k)) c.in-Name.is));
  not_longer = omega (arith, c.skip.ensures.shorter);
}

pub returns-in_default-kind : goal.returns-in_default-kind
returns-in_default-kind c = record { value = λ d. no_name d _ (λ b. no_kind c.in-Some.token.now.line.0 c.in-Some.token.now.kind c.in_default-kind.not-Name (subst IsName (sym c.in-Some.ensures) b)); not_longer = omega arith }
