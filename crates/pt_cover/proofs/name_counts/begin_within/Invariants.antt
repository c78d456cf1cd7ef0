use Rattle.std.proofs.Common.{◌≡◌, ◌++◌, map, take, drop}
use Rattle.pt_cover.specs.Tallies.{one_within_more}
use Rattle.pt_cover.proofs.name_counts.begin_within.Given as goal

abbrev pub invariant-loop-row : goal.invariant-loop-row
invariant-loop-row l = l.rows ≡ map one_within_more (take l.row-index l.initial.rows) ++ drop l.row-index l.initial.rows
