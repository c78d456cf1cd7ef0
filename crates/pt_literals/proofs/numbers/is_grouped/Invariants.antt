use Rattle.std.proofs.Common.{◌≡◌, drop}
use Rattle.pt_literals.specs.Numbers.{is_grouped}
use Rattle.pt_literals.proofs.numbers.is_grouped.Given as goal

abbrev pub invariant-loop-spot : goal.invariant-loop-spot
invariant-loop-spot l = is_grouped l.radix l.comes (drop l.spot-index l.digits) ≡ is_grouped l.radix l.may_come l.digits
