use Rattle.std.proofs.Common.{◌≡◌, ◌+◌, drop}
use Rattle.pt_tree.specs.Sizes.{decorator_calls, decorators_size}
use Rattle.pt_tree.specs.StatementFold.{decorators_of}
use Rattle.pt_act_counts.proofs.statements.count_decorators.Given as goal

abbrev pub invariant-loop-decorator : goal.invariant-loop-decorator
invariant-loop-decorator l =
    l.acts + (decorators_size (decorators_of (drop l.decorator-index l.decorators)) + decorator_calls (decorators_of (drop l.decorator-index l.decorators)))
    ≡ l.fn.acts + (decorators_size (decorators_of l.decorators) + decorator_calls (decorators_of l.decorators))
