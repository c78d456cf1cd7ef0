use Rattle.std.proofs.Common.{sym, ◌∙◌}
use Rattle.pt_lexer.specs.Lines.{nest, nothing}
use Rattle.pt_lexer.proofs.GapLemmas.{no_piece_in_text}
use Rattle.pt_lexer.proofs.gaps.behind_gap.Goals as goal

pub returns-clause-gap : goal.returns-clause-gap
returns-clause-gap c = nothing

pub returns-clause-full : goal.returns-clause-full
returns-clause-full c = no_piece_in_text c.args.end (nest c.args.mode c.args.opened.now) c.args.text.now (sym c.reads_words.ensures ∙ c.if-reads_words.false)
