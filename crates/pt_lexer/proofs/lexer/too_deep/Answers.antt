use Rattle.pt_lexer.proofs.FirstLemmas.{spoilt_first, string_first, word_first, known_first}
use Rattle.pt_lexer.proofs.lexer.too_deep.Goals as goal

pub returns-in-Err : goal.returns-in-Err
returns-in-Err c = spoilt_first c.in-Err.error c.requires.begins c.in-Err.ensures

pub returns-in-Ok-Holds : goal.returns-in-Ok-Holds
returns-in-Ok-Holds c = string_first c.requires.begins (rw c.in-Ok-Holds.field-0-is at c.in-Ok-Holds.ensures)

pub returns-in-Ok-Known : goal.returns-in-Ok-Known
returns-in-Ok-Known c = word_first c.too_deep_at.result c.requires.begins (known_first (rw c.in-Ok-Known.field-0-is at c.in-Ok-Known.ensures)) c.too_deep_at.ensures
