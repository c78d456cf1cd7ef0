use Rattle.std.proofs.Common.{take}
use Rattle.pt_takers.specs.Numbers.{AreNumbered}
use Rattle.pt_takers.proofs.takers.always_rows.Given as goal

abbrev pub invariant-loop-at : goal.invariant-loop-at
invariant-loop-at l = AreNumbered (take l.at l.rows) l.found.items
