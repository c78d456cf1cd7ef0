use Rattle.std.proofs.Common.{◌≡◌, ◌<◌, ◌^◌, drop}
use Rattle.pt_literals.specs.Numbers.{value_from}
use Rattle.pt_literals.proofs.numbers.value.Given as goal

abbrev pub invariant-loop-spot : goal.invariant-loop-spot
invariant-loop-spot l = record {
  value : value_from l.radix l.sum (drop l.spot-index l.digits) ≡ value_from l.radix 0 l.digits;
  small : l.sum < 2 ^ 127;
}
