use Rattle.std.proofs.Common.{◌∙◌}
use Rattle.pt_lexer.proofs.WordLemmas.{operators_by_length, no_operator}
use Rattle.pt_lexer.proofs.words.operators_of.Goals as goal

pub returns-then-count-eq3 : goal.returns-then-count-eq3
returns-then-count-eq3 c = λ x h. operators_by_length 3 x (h ∙ c.if-count-eq3.true)

pub returns-then-count-eq2 : goal.returns-then-count-eq2
returns-then-count-eq2 c = λ x h. operators_by_length 2 x (h ∙ c.if-count-eq2.true)

pub returns-then-count-eq1 : goal.returns-then-count-eq1
returns-then-count-eq1 c = λ x h. operators_by_length 1 x (h ∙ c.if-count-eq1.true)

pub returns : goal.returns
returns c = λ x h. no_operator c.args.count x c.if-count-eq1.false c.if-count-eq2.false c.if-count-eq3.false h
