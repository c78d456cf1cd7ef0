use Rattle.std.proofs.Common.{sym, ◌∙◌}
use Rattle.std.proofs.lemmas.Bool.{false≢true}
use Rattle.pt_lexer.proofs.GapLemmas.{blank_at, comment_at, backslash_of, inside_of}
use Rattle.pt_lexer.proofs.gaps.behind_piece.Goals as goal

pub returns-then-is_blank_char : goal.returns-then-is_blank_char
returns-then-is_blank_char c = blank_at c.in_ok-spot.ensures (sym c.is_blank_char.ensures ∙ c.if-is_blank_char.true)

pub returns-then-spot-eq35 : goal.returns-then-spot-eq35
returns-then-spot-eq35 c = comment_at c.in_ok-spot.ensures c.if-spot-eq35.true c.behind_comment.ensures

pub returns-then-spot-eq92 : goal.returns-then-spot-eq92
returns-then-spot-eq92 c = backslash_of c.behind_stop.result c.args.end c.args.opened.now c.args.text.now _ _ c.in_ok-spot.ensures c.if-spot-eq92.true c.behind_stop.ensures

pub returns : goal.returns
returns c =
    inside_of c.line_end.result c.args.end c.args.opened.now c.args.text.now _ _ c.in_ok-spot.ensures (sym c.is_blank_char.ensures ∙ c.if-is_blank_char.false) c.if-spot-eq35.false c.if-spot-eq92.false
    (λ e. false≢true (c.if-is_empty.ensures.1 e)) c.line_end.ensures
