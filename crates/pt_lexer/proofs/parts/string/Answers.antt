use Rattle.std.proofs.Common.{◌∙◌}
use Rattle.std.proofs.lemmas.Result.{err_from_is_err_and}
use Rattle.pt_lexer.proofs.StringLemmas.{string_read, string_ends, string_spoilt, string_more, string_shorter}
use Rattle.pt_lexer.proofs.parts.string.Goals as goal

pub returns-in-Some-behind_end : goal.returns-in-Some-behind_end
returns-in-Some-behind_end c = λ end. string_read (c.loop-spot.invariant end) c.in-Some.ensures c.in-Some-behind_end.ensures (c.in_ok-from_str.ensures ∙ c.as_str.ensures.value)

pub returns-in_err-chars : goal.returns-in_err-chars
returns-in_err-chars c = λ end.
    let p = err_from_is_err_and c.from_residual-in_err-chars.result c.from_residual-in_err-chars.ensures.1 in
    rw (p.1, p.2) (string_spoilt c.in_err-chars.field-0.0 (c.loop-spot.invariant end) c.in-Some.ensures c.in_default-behind_end.ensures c.in_err-chars.ensures)

pub loop-spot-smaller : goal.loop-spot-smaller
loop-spot-smaller c = string_shorter c.args.part c.in-Some.ensures c.in_ok-chars.ensures

pub loop-spot-preserved : goal.loop-spot-preserved
loop-spot-preserved c = λ end. string_more (c.loop-spot.invariant end) c.in-Some.ensures c.in_default-behind_end.ensures c.in_ok-chars.ensures c.in_ok-push.ensures

pub returns : goal.returns
returns c = λ end. string_ends (c.loop-spot.invariant end) c.in_default.ensures
