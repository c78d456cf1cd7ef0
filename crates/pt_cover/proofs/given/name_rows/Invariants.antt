use Rattle.std.proofs.Common.{◌≡◌, [], drop, map, fold}
use Rattle.pt_cover.specs.Given.{with_name, first_given}
use Rattle.pt_cover.specs.Tallies.{names_of, name_row}
use Rattle.pt_cover.proofs.given.name_rows.Given as goal

abbrev pub invariant-loop-name : goal.invariant-loop-name
invariant-loop-name l = record {
  names : fold with_name (names_of l.rows.items) (drop l.name-index l.names) ≡ first_given l.names;
  rows : l.rows.items ≡ map (name_row []) (names_of l.rows.items);
}
