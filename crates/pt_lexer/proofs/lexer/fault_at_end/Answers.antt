use Rattle.std.proofs.Common.{◌∙◌}
use Rattle.std.proofs.lemmas.Bool.{not-true, not-false}
use Rattle.pt_lexer.specs.Lines.{nest}
use Rattle.pt_lexer.proofs.ReadLemmas.{fault_broken, fault_unclosed, open_at}
use Rattle.pt_lexer.proofs.lexer.fault_at_end.Goals as goal

pub returns-then-not-end : goal.returns-then-not-end
returns-then-not-end c = fault_broken c.args.end (nest c.args.mode c.args.opened) c.requires.words (not-true c.args.end.is_whole c.if-not-end.true)

pub returns : goal.returns
returns c =
    fault_unclosed c.args.end (nest c.args.mode c.args.opened) c.left_open_by.result c.requires.words
    (c.left_open_by.ensures ∙ open_at c.outermost-string.ensures.0 c.outermost-string.ensures.1) (not-false c.args.end.is_whole c.if-not-end.false) c.requires.stop
