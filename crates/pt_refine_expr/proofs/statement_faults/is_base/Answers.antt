use Rattle.std.proofs.Common.{arith}
use Rattle.pt_wide.proofs.Folds.{argument_of-Positional, argument_of-Named, argument_of-Spread, argument_of-SpreadNamed}
use Rattle.pt_wide.specs.Syntax.{no_args}
use Rattle.pt_refine_expr.proofs.statement_faults.is_base.Goals as goal

pub returns-in-Positional : goal.returns-in-Positional
returns-in-Positional c = grind (arith, argument_of-Positional c.args.argument.now no_args _ c.in-Positional.is)

pub returns-in-Named : goal.returns-in-Named
returns-in-Named c = grind (arith, argument_of-Named c.args.argument.now no_args _ _ _ c.in-Named.is)

pub returns-in-Spread : goal.returns-in-Spread
returns-in-Spread c = grind (arith, argument_of-Spread c.args.argument.now no_args _ _ c.in-Spread.is)

pub returns-in-SpreadNamed : goal.returns-in-SpreadNamed
returns-in-SpreadNamed c = grind (arith, argument_of-SpreadNamed c.args.argument.now no_args _ _ c.in-SpreadNamed.is)
