use Rattle.pt_lexer.proofs.FirstLemmas.{no_words, refused_broken}
use Rattle.pt_lexer.proofs.lexer.Lexer.line.Goals as goal

pub returns-in-Some-clause-read : goal.returns-in-Some-clause-read
returns-in-Some-clause-read c = no_words _ _ c.begin-first.ensures.gap c.in-Some.ensures c.requires.rising

pub returns-in_default-first_spot-clause-read : goal.returns-in_default-first_spot-clause-read
returns-in_default-first_spot-clause-read c = refused_broken _ c.begin-first.ensures.gap c.begin-first.ensures.full c.in_default-first_spot.ensures c.in_default.ensures
