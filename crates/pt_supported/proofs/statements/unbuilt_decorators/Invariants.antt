use Rattle.std.proofs.Common.{◌≡◌, drop}
use Rattle.pt_tree.specs.StatementFold.{decorators_of}
use Rattle.pt_supported.specs.Built.{unbuilt_decorators}
use Rattle.pt_supported.proofs.statements.unbuilt_decorators.Given as goal

abbrev pub invariant-loop-decorator : goal.invariant-loop-decorator
invariant-loop-decorator l = unbuilt_decorators (decorators_of (drop l.decorator-index l.decorators)) ≡ unbuilt_decorators (decorators_of l.decorators)
