use Rattle.std.proofs.Common.{sym, subst}
use Rattle.pt_lexer.specs.Faults.{IsTokens}
use Rattle.pt_tree.specs.StatementFold.{script_of}
use Rattle.pt_front.proofs.FrontLemmas.{of_tokens, of_script, of_declarations}
use Rattle.pt_front.proofs.front_end.front.Goals as goal

pub returns-in-Err : goal.returns-in-Err
returns-in-Err c = of_tokens c.args.text.now c.in-Err.failure c.map_refused.result c.map_refused.ensures c.in-Err.ensures.exact

pub returns-in-Err-parse_script : goal.returns-in-Err-parse_script
returns-in-Err-parse_script c =
    let are = subst (IsTokens c.args.text.now) (sym c.as_slice.ensures) c.in-Ok.ensures.exact in
    of_script c.args.text.now c.as_slice.result.now are c.in-Err-parse_script.failure c.map_refused-in-Err-parse_script.result c.map_refused-in-Err-parse_script.ensures c.in-Err-parse_script.ensures

pub returns : goal.returns
returns c =
    let are = subst (IsTokens c.args.text.now) (sym c.as_slice.ensures) c.in-Ok.ensures.exact in
    of_declarations c.args.text.now c.as_slice.result.now are (script_of c.in-Ok-parse_script.script) c.in-Ok-parse_script.ensures c.in-Err-resolve.failure c.map_refused-in-Err-resolve.result
    c.map_refused-in-Err-resolve.ensures c.in-Err-resolve.ensures.err
