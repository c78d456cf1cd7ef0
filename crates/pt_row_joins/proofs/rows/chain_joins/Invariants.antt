use Rattle.std.proofs.Common.{◌≡◌, ◌≤◌, length}
use Rattle.pt_row_joins.specs.Rows.{IsChainBelow, Lists}
use Rattle.pt_row_joins.proofs.rows.chain_joins.Given as goal

abbrev pub invariant-loop-number : goal.invariant-loop-number
invariant-loop-number l = record {
  lists : Lists (IsChainBelow l.places l.deepest l.number) l.joins.items;
  few : length l.places ≡ 0 → l.number ≤ 1;
}
