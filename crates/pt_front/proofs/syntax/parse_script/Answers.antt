use Rattle.pt_front.proofs.SyntaxLemmas.{no_wide_script, no_narrow_script}
use Rattle.pt_front.proofs.syntax.parse_script.Goals as goal

pub returns-in-Err : goal.returns-in-Err
returns-in-Err c = no_wide_script c.args.tokens.now c.in-Err.failure c.map_refused.result c.map_refused.ensures c.in-Err.ensures

pub returns : goal.returns
returns c =
    no_narrow_script c.args.tokens.now c.in-Err-narrow.told c.left_out.result c.left_out.ensures
    (record { wide = _; are_wide = c.in-Ok.ensures; is_told = c.in-Err-narrow.ensures.err })
