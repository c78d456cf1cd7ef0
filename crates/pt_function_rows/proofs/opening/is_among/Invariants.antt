use Rattle.std.proofs.Common.{◌≡◌, drop}
use Rattle.pt_bind.specs.NameSets.{is_among}
use Rattle.pt_function_rows.proofs.opening.is_among.Given as goal

abbrev pub invariant-loop-listed : goal.invariant-loop-listed
invariant-loop-listed l = is_among l.names l.name ≡ is_among (drop l.listed-index l.names) l.name
