use Rattle.std.proofs.Common.{◌≡◌}
use Rattle.pt_bdb.proofs.Turns.{Turned}
use Rattle.pt_bdb.proofs.breaks.first_hit.Given as goal

abbrev pub invariant-loop-at : goal.invariant-loop-at
invariant-loop-at g l = record {
  kept : g.J.Judge.held l.judge ≡ g.J.Judge.held l.fn.judge;
  turned : Turned (g.J.Judge.verdict (g.J.Judge.held l.fn.judge)) l.line l.fn.rows l.rows l.at;
}
