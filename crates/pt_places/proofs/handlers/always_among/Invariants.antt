use Rattle.std.proofs.Common.{◌≡◌, take}
use Rattle.pt_places.specs.Innermost.{always_rows}
use Rattle.pt_places.proofs.handlers.always_among.Given as goal

abbrev pub invariant-loop-row : goal.invariant-loop-row
invariant-loop-row l = l.kept.items ≡ always_rows (take l.row-index l.rows)
