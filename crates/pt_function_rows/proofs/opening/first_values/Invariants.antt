use Rattle.std.proofs.Common.{◌≡◌, take}
use Rattle.pt_function_rows.specs.Openings.{first_values_of}
use Rattle.pt_function_rows.proofs.opening.first_values.Given as goal

abbrev pub invariant-loop-name : goal.invariant-loop-name
invariant-loop-name l = l.firsts ≡ first_values_of l.facts l.values (take l.name-index l.facts.locals)
