use Rattle.std.proofs.Common.{◌≡◌, ◌<◌, ℕ, length}
use Rattle.std.specs.Prelude.{slice_index_or}
use Rattle.pt_row_joins.specs.Rows.{sized_below, rank}
use Rattle.pt_row_joins.proofs.sized.SizedPlaces.make.Given as goal

abbrev pub invariant-loop-at : goal.invariant-loop-at
invariant-loop-at l = record {
  places : l.places.items ≡ sized_below l.sizes l.at;
  long : length l.before.items ≡ l.at;
  before : (pc : ℕ) → pc < l.at → slice_index_or l.before.items pc 0 ≡ rank l.sizes pc;
}
