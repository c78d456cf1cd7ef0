use Rattle.std.proofs.Common.{◌≡◌, drop}
use Rattle.pt_sorting.specs.Sorting.{fault_behind}
use Rattle.pt_sorting.proofs.sorting.fault_behind.Given as goal

abbrev pub invariant-loop-key : goal.invariant-loop-key
invariant-loop-key l = fault_behind l.heap l.last (drop l.key-index l.keys) ≡ fault_behind l.heap l.fn.before l.keys
