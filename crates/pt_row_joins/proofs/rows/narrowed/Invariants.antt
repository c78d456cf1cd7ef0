use Rattle.std.proofs.Common.{List, Option, ℕ, take, length, ◌≡◌}
use Rattle.pt_row_joins.specs.Rows.{AreSizedPlaces, AreNarrowed}
use Rattle.pt_row_joins.proofs.rows.narrowed.Given as goal

abbrev pub invariant-loop-row : goal.invariant-loop-row
invariant-loop-row l = (sizes : List (Option ℕ)) → AreSizedPlaces sizes l.reached → length sizes ≡ l.count
    → AreNarrowed sizes (take l.row-index l.rows) l.all.items
