use Rattle.std.proofs.Common.{◌≡◌, map, take}
use Rattle.pt_partial_sizes.specs.Cut.{cut_row}
use Rattle.pt_partial_sizes.proofs.cut.cut_rows.Given as goal

abbrev pub invariant-loop-row : goal.invariant-loop-row
invariant-loop-row l = l.all.items ≡ map (cut_row l.limit) (take l.row-index l.rows)
