use Rattle.pt_common_slots.specs.Joins.{IsOwnBelow}
use Rattle.pt_row_joins.specs.Rows.{Lists}
use Rattle.pt_common_slots.proofs.own.own_joins.Given as goal

abbrev pub invariant-loop-at : goal.invariant-loop-at
invariant-loop-at l = Lists (IsOwnBelow l.places l.sizes l.at) l.joins.items
