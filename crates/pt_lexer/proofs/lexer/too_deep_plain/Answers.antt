use Rattle.pt_lexer.proofs.FirstLemmas.{no_word_first, strange_first, word_first, plain_first}
use Rattle.pt_lexer.proofs.lexer.too_deep_plain.Goals as goal

pub returns-in-Ok-None : goal.returns-in-Ok-None
returns-in-Ok-None c = strange_first c.requires.begins (no_word_first c.requires.lacks (rw c.in-Ok-None.field-0-is at c.in-Ok-None.ensures))

pub returns-in-Ok-Some : goal.returns-in-Ok-Some
returns-in-Ok-Some c = word_first c.too_deep_at.result c.requires.begins (plain_first c.requires.lacks (rw c.in-Ok-Some.field-0-is at c.in-Ok-Some.ensures)) c.too_deep_at.ensures
