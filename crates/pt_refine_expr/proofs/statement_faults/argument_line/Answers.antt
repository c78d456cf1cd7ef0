use Rattle.std.proofs.Common.{sym, ap, ◌∙◌}
use Rattle.pt_wide.proofs.Folds.{argument_of-Positional, argument_of-Named, argument_of-Spread, argument_of-SpreadNamed}
use Rattle.pt_refine_expr.specs.StatementFaults.{args_line}
use Rattle.pt_refine_expr.proofs.Others.{line-is}
use Rattle.pt_refine_expr.proofs.statement_faults.argument_line.Goals as goal

pub returns-in-Positional : goal.returns-in-Positional
returns-in-Positional c = λ r. sym (line-is c.in-Positional.value) ∙ sym (ap args_line (argument_of-Positional c.args.argument.now r _ c.in-Positional.is))

pub returns-in-Named : goal.returns-in-Named
returns-in-Named c = λ r. sym (ap args_line (argument_of-Named c.args.argument.now r _ _ _ c.in-Named.is))

pub returns-in-Spread : goal.returns-in-Spread
returns-in-Spread c = λ r. sym (ap args_line (argument_of-Spread c.args.argument.now r _ _ c.in-Spread.is))

pub returns-in-SpreadNamed : goal.returns-in-SpreadNamed
returns-in-SpreadNamed c = λ r. sym (ap args_line (argument_of-SpreadNamed c.args.argument.now r _ _ c.in-SpreadNamed.is))
