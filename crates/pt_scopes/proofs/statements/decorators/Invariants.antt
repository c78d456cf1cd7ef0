use Rattle.std.proofs.Common.{◌≡◌, drop}
use Rattle.pt_scopes.specs.Behind.{behind}
use Rattle.pt_scopes.specs.Mentions.{places_decorators}
use Rattle.pt_tree.specs.StatementFold.{decorators_of}
use Rattle.pt_scopes.proofs.statements.decorators.Given as goal

abbrev pub invariant-loop-decorator : goal.invariant-loop-decorator
invariant-loop-decorator l = behind l.g (places_decorators l.at l.class (decorators_of (drop l.decorator-index l.list))) ≡ behind l.fn.g (places_decorators l.at l.class (decorators_of l.list))
