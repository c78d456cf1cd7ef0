use Rattle.std.proofs.Common.{◌≡◌, drop}
use Rattle.pt_pdb.specs.Arguments.{is_bound}
use Rattle.pt_pdb.proofs.arguments.is_bound.Given as goal

abbrev pub invariant-loop-binding : goal.invariant-loop-binding
invariant-loop-binding l = is_bound l.name (drop l.binding-index l.locals) ≡ is_bound l.name l.locals
