use Rattle.std.proofs.Common.{◌∷◌, ap, sym, ◌∙◌}
use Rattle.pt_tree.proofs.Folds.{argument_of-Positional, argument_of-Named, argument_of-Spread, argument_of-SpreadNamed}
use Rattle.pt_block_names.specs.Named.{around}
use Rattle.sem_control.specs.control.Turn as T
use Rattle.sem_control.specs.control.Expressions.{roles}
use Rattle.pt_write_ops.proofs.trees.role.Goals as goal

pub returns-in-Positional : goal.returns-in-Positional
returns-in-Positional c = λ rest. ap (λ r. roles ((around (tt {0}) c.args.names.now).spelled) r) (argument_of-Positional c.args.argument.now rest _ c.in-Positional.is)

pub returns-in-Spread : goal.returns-in-Spread
returns-in-Spread c = λ rest. ap (λ r. roles ((around (tt {0}) c.args.names.now).spelled) r) (argument_of-Spread c.args.argument.now rest _ c.in-Spread.is)

pub returns-in-SpreadNamed : goal.returns-in-SpreadNamed
returns-in-SpreadNamed c = λ rest. ap (λ r. roles ((around (tt {0}) c.args.names.now).spelled) r) (argument_of-SpreadNamed c.args.argument.now rest _ c.in-SpreadNamed.is)

pub returns-in_ok-spelled-in-Named : goal.returns-in_ok-spelled-in-Named
returns-in_ok-spelled-in-Named c = λ rest. ap (λ r. roles ((around (tt {0}) c.args.names.now).spelled) r) (argument_of-Named c.args.argument.now rest _ _ c.in-Named.is)
    ∙ ap (λ t. T.named t ∷ roles ((around (tt {0}) c.args.names.now).spelled) rest)
    (ap ((around (tt {0}) c.args.names.now).spelled) (sym c.as_str.ensures) ∙ sym c.in_ok-spelled-in-Named.ensures)
