use Rattle.pt_literals.specs.Source.{chars_of}
use Rattle.pt_lexer.proofs.WordLemmas.{length-chars, listed_as}
use Rattle.pt_lexer.proofs.words.operator_of.Goals as goal

pub returns : goal.returns
returns c = listed_as c.listed.result _ _ (chars_of c.args.front.now) (c.operators_of.ensures (chars_of c.args.front.now) (length-chars c.args.front.now)) c.listed.ensures
