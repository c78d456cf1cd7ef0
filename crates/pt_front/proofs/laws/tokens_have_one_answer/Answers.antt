use Rattle.pt_front.proofs.SyntaxOnce.{one_script, one_reason, script_or_none, one_expr, one_expr_reason, expr_or_none}
use Rattle.pt_front.proofs.laws.tokens_have_one_answer.Goals as goal

pub returns : goal.returns
returns c = record {
  one_script = one_script;
  one_reason = one_reason;
  never_both = script_or_none;
  one_expr = one_expr;
  one_expr_reason = one_expr_reason;
  never_both_of_expr = expr_or_none;
}
