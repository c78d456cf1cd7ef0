use Rattle.std.proofs.Common.{◌∙◌}
use Rattle.pt_literals.specs.Source.{chars_of}
use Rattle.pt_lexer.specs.Words.{is_operator}
use Rattle.pt_lexer.proofs.WordLemmas.{listed_is_some}
use Rattle.pt_lexer.proofs.words.operates.Goals as goal

pub returns : goal.returns
returns c = c.is_some.ensures ∙ listed_is_some c.operator_of.result (is_operator (chars_of c.args.front.now)) (chars_of c.args.front.now) c.operator_of.ensures
