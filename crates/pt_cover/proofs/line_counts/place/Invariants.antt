use Rattle.std.proofs.Common.{◌≡◌, ◌+◌, drop}
use Rattle.pt_cover.specs.Tallies.{line_place, lines_of}
use Rattle.pt_cover.proofs.line_counts.place.Given as goal

abbrev pub invariant-loop-at : goal.invariant-loop-at
invariant-loop-at l = l.at + line_place (lines_of (drop l.at l.rows)) l.line ≡ line_place (lines_of l.rows) l.line
