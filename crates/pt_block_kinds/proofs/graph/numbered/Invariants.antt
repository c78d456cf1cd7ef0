use Rattle.std.proofs.Common.{◌≡◌, take}
use Rattle.pt_block_kinds.specs.Leads.{numbered}
use Rattle.pt_block_kinds.proofs.graph.numbered.Given as goal

abbrev pub invariant-loop-at : goal.invariant-loop-at
invariant-loop-at l = l.found.items ≡ numbered 0 (take l.at l.rows)
