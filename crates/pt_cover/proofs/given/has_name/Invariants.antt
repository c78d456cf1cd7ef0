use Rattle.std.proofs.Common.{◌≡◌, drop}
use Rattle.std.specs.List.{list_any}
use Rattle.std.specs.Str.{bytes_eq}
use Rattle.pt_cover.specs.Tallies.{names_of}
use Rattle.pt_cover.proofs.given.has_name.Given as goal

abbrev pub invariant-loop-row : goal.invariant-loop-row
invariant-loop-row l = list_any (bytes_eq l.name) (names_of (drop l.row-index l.rows)) ≡ list_any (bytes_eq l.name) (names_of l.rows)
