use Rattle.std.proofs.Common.{◌∙◌}
use Rattle.pt_literals.specs.Source.{chars_of}
use Rattle.pt_lexer.proofs.WordLemmas.{spells_keyword}
use Rattle.pt_lexer.proofs.words.name.Goals as goal

pub returns-then-is_keyword : goal.returns-then-is_keyword
returns-then-is_keyword c =
    spells_keyword (chars_of c.args.front.now) _ _ c.is_keyword.ensures c.if-is_keyword.true (c.in_ok-from_str.ensures ∙ (c.as_str-then-is_keyword.ensures.value ∙ c.in_ok-text.ensures))
