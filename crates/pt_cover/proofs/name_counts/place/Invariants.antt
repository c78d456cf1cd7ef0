use Rattle.std.proofs.Common.{◌≡◌, ◌+◌, drop}
use Rattle.pt_cover.specs.Tallies.{name_place, names_of}
use Rattle.pt_cover.proofs.name_counts.place.Given as goal

abbrev pub invariant-loop-at : goal.invariant-loop-at
invariant-loop-at l = l.at + name_place (names_of (drop l.at l.rows)) l.name ≡ name_place (names_of l.rows) l.name
