use Rattle.std.proofs.Common.{◌≡◌, drop}
use Rattle.pt_eval.specs.Names.{value_in}
use Rattle.pt_eval.proofs.names.value_in.Given as goal

abbrev pub invariant-loop-binding : goal.invariant-loop-binding
invariant-loop-binding l = value_in (drop l.binding-index l.bindings) l.name ≡ value_in l.bindings l.name
