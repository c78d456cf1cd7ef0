use Rattle.std.proofs.Common.{ℕ, ◌<◌}
use Rattle.pt_block_kinds.specs.Told.{ShortAt}
use Rattle.pt_block_kinds.proofs.graph.BlockKinds.has_short_place.Given as goal

abbrev pub invariant-loop-at : goal.invariant-loop-at
invariant-loop-at l = (pc : ℕ) → pc < l.at → ShortAt l.self.flow l.sizes pc → ⊥
