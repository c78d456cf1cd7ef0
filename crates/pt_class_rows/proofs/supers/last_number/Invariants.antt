use Rattle.std.proofs.Common.{◌≡◌, drop}
use Rattle.pt_class_rows.specs.Supers.{last_from}
use Rattle.pt_class_rows.proofs.supers.last_number.Given as goal

abbrev pub invariant-loop-at : goal.invariant-loop-at
invariant-loop-at l = last_from l.fn.before l.name l.names l.numbers ≡ last_from l.found l.name (drop l.at l.names) (drop l.at l.numbers)
