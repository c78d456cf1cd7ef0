use Rattle.std.proofs.Common.{◌≡◌, take, None}
use Rattle.pt_bdb.specs.Breakpoints.{row_of}
use Rattle.pt_bdb.proofs.breaks.place_of.Given as goal

abbrev pub invariant-loop-at : goal.invariant-loop-at
invariant-loop-at l = row_of l.number (take l.at l.rows) ≡ None
