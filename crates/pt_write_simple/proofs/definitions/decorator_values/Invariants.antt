use Rattle.std.proofs.Common.{◌≡◌, drop}
use Rattle.pt_tree.specs.StatementFold.{decorators_of}
use Rattle.pt_stm_forms.specs.Simple.{behind_decorators}
use Rattle.pt_write_simple.proofs.definitions.decorator_values.Given as goal

abbrev pub invariant-loop-decorator : goal.invariant-loop-decorator
invariant-loop-decorator l =
    behind_decorators l.names (decorators_of (drop l.decorator-index l.decorators)) l.w ≡ behind_decorators l.names (decorators_of l.decorators) l.fn.w
