use Rattle.pt_lexer.proofs.GapLemmas.{stop_of, stop_at_end, not_empty, is_nil}
use Rattle.pt_lexer.proofs.gaps.behind_stop.Goals as goal

pub returns-then-not-is_empty : goal.returns-then-not-is_empty
returns-then-not-is_empty c = stop_of c.line_end.result c.args.end c.args.text.now (not_empty c.args.text.now c.is_empty.ensures c.if-not-is_empty.true) c.line_end.ensures

pub returns-then-end : goal.returns-then-end
returns-then-end c = stop_at_end c.args.end c.args.text.now (is_nil c.args.text.now c.is_empty.ensures c.if-not-is_empty.false) c.if-end.true
