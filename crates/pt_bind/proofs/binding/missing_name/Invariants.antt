use Rattle.std.proofs.Common.{◌≡◌, drop}
use Rattle.pt_bind.specs.Binding.{first_unfilled, names_of}
use Rattle.pt_bind.proofs.binding.missing_name.Given as goal

abbrev pub invariant-loop-at : goal.invariant-loop-at
invariant-loop-at l = first_unfilled (names_of l.params) l.values ≡ first_unfilled (drop l.at (names_of l.params)) (drop l.at l.values)
