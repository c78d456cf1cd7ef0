use Rattle.std.proofs.Common.{◌≡◌, ◌++◌, drop, map}
use Rattle.pt_tree.specs.Syntax.{no_args}
use Rattle.pt_tree.specs.Fold.{argument_of, chained}
use Rattle.sem_control.specs.control.Expressions.{roles}
use Rattle.pt_block_names.specs.Named.{around}
use Rattle.pt_write_ops.specs.Roles.{role_of}
use Rattle.pt_write_ops.proofs.trees.roles.Given as goal

abbrev pub invariant-loop-argument : goal.invariant-loop-argument
invariant-loop-argument l = map role_of l.roles ++ roles ((around (tt {0}) l.names).spelled) (chained no_args (map argument_of (drop l.argument-index l.arguments)))
    ≡ roles ((around (tt {0}) l.names).spelled) (chained no_args (map argument_of l.arguments))
