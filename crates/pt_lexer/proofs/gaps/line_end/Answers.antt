use Rattle.pt_lexer.proofs.GapLemmas.{feed_at, both_at, carriage_at_end, carriage_before}
use Rattle.pt_lexer.proofs.gaps.line_end.Goals as goal

pub returns-then-spot-eq10 : goal.returns-then-spot-eq10
returns-then-spot-eq10 c = feed_at c.in_ok-spot.ensures c.if-spot-eq10.true

pub returns-in_default : goal.returns-in_default
returns-in_default c = carriage_at_end c.in_ok-spot.ensures c.in_default.ensures c.if-spot-ne13.false

pub returns-then-next-eq10 : goal.returns-then-next-eq10
returns-then-next-eq10 c = both_at c.in_ok-spot.ensures c.in-Some.ensures c.if-spot-ne13.false c.if-next-eq10.true

pub returns : goal.returns
returns c = carriage_before c.in_ok-spot.ensures c.in-Some.ensures c.if-spot-ne13.false c.if-next-eq10.false
