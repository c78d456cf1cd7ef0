use Rattle.std.proofs.Common.{subst}
use Rattle.pt_lexer.specs.Lines.{nest, NoLineStop}
use Rattle.pt_lexer.proofs.ReadLemmas.{ends_in_words, fault_strange, fault_end}
use Rattle.pt_lexer.proofs.lexer.fault_at.Goals as goal

pub fault_at_end-requires-clause-words : goal.fault_at_end-requires-clause-words
fault_at_end-requires-clause-words c = ends_in_words c.args.mode c.args.text.now c.in-None.ensures c.requires.word

pub fault_at_end-requires-clause-stop : goal.fault_at_end-requires-clause-stop
fault_at_end-requires-clause-stop c = subst (NoLineStop c.args.end (nest c.args.mode c.args.opened)) c.in-None.ensures c.requires.stop

pub returns-in-Some : goal.returns-in-Some
returns-in-Some c = fault_strange c.in-Some.ensures c.requires.gap c.requires.word c.requires.stop

pub returns-in-None : goal.returns-in-None
returns-in-None c = fault_end c.in-None.ensures c.fault_at_end.ensures
