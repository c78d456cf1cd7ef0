use Rattle.std.proofs.Common.{sym, ◌∙◌}
use Rattle.pt_lexer.proofs.GapLemmas.{comment_at_end, comment_at_line_end, comment_more}
use Rattle.pt_lexer.proofs.gaps.behind_comment.Goals as goal

pub returns-then-ends_line_char : goal.returns-then-ends_line_char
returns-then-ends_line_char c = c.loop-spot.invariant _ (comment_at_line_end c.in-Some.ensures (sym c.ends_line_char.ensures ∙ c.if-ends_line_char.true))

pub loop-spot-preserved : goal.loop-spot-preserved
loop-spot-preserved c = λ end k. c.loop-spot.invariant end (comment_more c.in-Some.ensures (sym c.ends_line_char.ensures ∙ c.if-ends_line_char.false) k)

pub returns : goal.returns
returns c = c.loop-spot.invariant _ (comment_at_end c.in_default.ensures)
