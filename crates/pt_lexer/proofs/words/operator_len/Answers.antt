use Rattle.std.proofs.Common.{sym, ◌∙◌}
use Rattle.pt_literals.specs.Source.{chars_of}
use Rattle.pt_lexer.proofs.WordLemmas.{three, two, one, none}
use Rattle.pt_lexer.proofs.words.operator_len.Goals as goal

pub returns-then-has_operator : goal.returns-then-has_operator
returns-then-has_operator c = three (chars_of c.args.text.now) (sym c.has_operator.ensures ∙ c.if-has_operator.true)

pub returns-then-has_operator-2 : goal.returns-then-has_operator-2
returns-then-has_operator-2 c = two (chars_of c.args.text.now) (sym c.has_operator.ensures ∙ c.if-has_operator.false) (sym c.has_operator-else-has_operator.ensures ∙ c.if-has_operator-2.true)

pub returns-then-has_operator-3 : goal.returns-then-has_operator-3
returns-then-has_operator-3 c = one (chars_of c.args.text.now) (sym c.has_operator.ensures ∙ c.if-has_operator.false) (sym c.has_operator-else-has_operator.ensures ∙ c.if-has_operator-2.false)
    (sym c.has_operator-else-has_operator-2.ensures ∙ c.if-has_operator-3.true)

pub returns-else-has_operator-3 : goal.returns-else-has_operator-3
returns-else-has_operator-3 c = none (chars_of c.args.text.now) (sym c.has_operator.ensures ∙ c.if-has_operator.false) (sym c.has_operator-else-has_operator.ensures ∙ c.if-has_operator-2.false)
    (sym c.has_operator-else-has_operator-2.ensures ∙ c.if-has_operator-3.false)
