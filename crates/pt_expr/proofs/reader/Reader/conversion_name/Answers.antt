use Rattle.std.proofs.Common.{Some, sym, ◌∙◌, ap, subst, arith}
use Rattle.pt_grammar.specs.Lexemes.{lexeme_at}
use Rattle.pt_grammar.specs.Signs.{conversion_of}
use Rattle.pt_grammar.proofs.StringLemmas.{HasName, IsConversion, conversion_named, named_kind, not_converted, no_conversion_name, name_converts}
use Rattle.pt_expr.proofs.reader.Reader.conversion_name.Goals as goal

pub returns-in_default-clause-value : goal.returns-in_default-clause-value
returns-in_default-clause-value c = no_conversion_name _ (λ b. subst HasName (sym c.in_default.ensures) (conversion_named _ b))

pub returns-in_default-conversion_of-clause-value : goal.returns-in_default-conversion_of-clause-value
returns-in_default-conversion_of-clause-value c =
    let e = sym c.in-Some.ensures ∙ ap (λ k. Some (lexeme_at c.in-Some.token.now.line.0 k)) c.in-Name.is in
    no_conversion_name _ (λ b. not_converted c.in-Some.token.now.line.0 c.in-Name.name (c.in_default-conversion_of.ensures ∙ ap conversion_of c.as_str.ensures) (subst IsConversion e b))

pub returns-in-Some-conversion_of-clause-value : goal.returns-in-Some-conversion_of-clause-value
returns-in-Some-conversion_of-clause-value c =
    let e = sym c.in-Some.ensures ∙ ap (λ k. Some (lexeme_at c.in-Some.token.now.line.0 k)) c.in-Name.is in
    rw c.skip.ensures.value (name_converts _ c.in-Some.token.now.line.0 c.in-Name.name c.in-Some-conversion_of.conversion e (sym (c.in-Some-conversion_of.ensures ∙ ap conversion_of c.as_str.ensures)))

pub returns-in_default-kind : goal.returns-in_default-kind
returns-in_default-kind c = record {
  value = no_conversion_name _ (λ b. named_kind c.in-Some.token.now.line.0 c.in-Some.token.now.kind c.in_default-kind.not-Name (subst HasName (sym c.in-Some.ensures) (conversion_named _ b)));
  not_longer = omega arith;
}
