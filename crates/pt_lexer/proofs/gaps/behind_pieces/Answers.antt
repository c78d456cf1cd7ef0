use Rattle.pt_lexer.specs.Lines.{nothing}
use Rattle.pt_lexer.proofs.GapLemmas.{gap_more, no_piece_here, piece_shorter}
use Rattle.pt_lexer.proofs.gaps.behind_pieces.Goals as goal

pub loop-behind-init : goal.loop-behind-init
loop-behind-init c = nothing

pub loop-behind-smaller : goal.loop-behind-smaller
loop-behind-smaller c = piece_shorter c.in-Some.ensures

pub loop-behind-preserved : goal.loop-behind-preserved
loop-behind-preserved c = gap_more c.requires c.loop-behind.invariant c.in-Some.ensures

pub returns-clause-full : goal.returns-clause-full
returns-clause-full c = no_piece_here c.args.end c.args.mode c.args.opened.now c.loop-behind.rest.now c.in_default.ensures
