use Rattle.std.proofs.Common.{◌≡◌, drop}
use Rattle.pt_bind.specs.Binding.{value_of}
use Rattle.pt_call_rows.proofs.operands.value_of.Given as goal

abbrev pub invariant-loop-binding : goal.invariant-loop-binding
invariant-loop-binding l = value_of l.name l.named ≡ value_of l.name (drop l.binding-index l.named)
