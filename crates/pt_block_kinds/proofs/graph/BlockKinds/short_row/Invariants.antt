use Rattle.std.proofs.Common.{ℕ, ◌<◌}
use Rattle.pt_block_kinds.specs.Told.{ShortRow}
use Rattle.pt_block_kinds.proofs.graph.BlockKinds.short_row.Given as goal

abbrev pub invariant-loop-at : goal.invariant-loop-at
invariant-loop-at l = (n : ℕ) → n < l.at → ShortRow l.self l.rows n → ⊥
