use Rattle.std.proofs.Common.{◌≡◌, ◌++◌, drop, map}
use Rattle.pt_tree.specs.Syntax.{no_formals}
use Rattle.pt_tree.specs.Fold.{chained, formal_of}
use Rattle.sem_control.specs.control.Expressions.{defaulted}
use Rattle.pt_expr_forms.specs.Behind.{known}
use Rattle.pt_write_leaves.proofs.parameters.push_defaulted.Given as goal

abbrev pub invariant-loop-parameter : goal.invariant-loop-parameter
invariant-loop-parameter l = l.into ++ map (known l.names).spelled (defaulted (chained no_formals (map formal_of (drop l.parameter-index l.parameters))))
    ≡ l.fn.into ++ map (known l.names).spelled (defaulted (chained no_formals (map formal_of l.parameters)))
