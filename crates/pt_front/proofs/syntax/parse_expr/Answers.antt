use Rattle.pt_front.proofs.SyntaxLemmas.{no_wide_expr, no_narrow_expr}
use Rattle.pt_front.proofs.syntax.parse_expr.Goals as goal

pub returns-in-Err : goal.returns-in-Err
returns-in-Err c = no_wide_expr c.args.tokens.now c.args.at c.in-Err.failure c.map_refused.result c.map_refused.ensures c.in-Err.ensures

pub returns : goal.returns
returns c =
    no_narrow_expr c.args.tokens.now c.args.at c.in-Err-narrow_expr.told c.left_out.result c.left_out.ensures (record {
      wide = _;
      next = _;
      begins = record { rest = c.in-Ok.ensures.0; tells = c.in-Ok.ensures.1.0; behind = c.in-Ok.ensures.1.1 };
      is_told = c.in-Err-narrow_expr.ensures.err;
    })
