use Rattle.std.proofs.Common.{length, ◌∙◌}
use Rattle.std.proofs.lemmas.Bool.{lt-leb}
use Rattle.pt_lexer.proofs.WordLemmas.{has_from, has_none}
use Rattle.pt_lexer.proofs.words.has_operator.Goals as goal

pub returns-then-n-text : goal.returns-then-n-text
returns-then-n-text c = has_from c.args.text.now c.args.n _ c.if-n-text.true c.operates.ensures

pub returns-else-n-text : goal.returns-else-n-text
returns-else-n-text c = lt-leb c.args.n (length c.args.text.now) c.if-n-text.false ∙ has_none c.args.text.now c.args.n c.if-n-text.false
