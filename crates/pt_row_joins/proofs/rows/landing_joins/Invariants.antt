use Rattle.std.proofs.Common.{take}
use Rattle.pt_row_joins.specs.Rows.{IsLanding, Lists}
use Rattle.pt_row_joins.proofs.rows.landing_joins.Given as goal

abbrev pub invariant-loop-row : goal.invariant-loop-row
invariant-loop-row l = Lists (IsLanding l.places (take l.row-index l.rows)) l.joins.items
