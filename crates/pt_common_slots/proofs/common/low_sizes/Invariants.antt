use Rattle.std.specs.Prelude.{take}
use Rattle.pt_common_slots.specs.Joins.{AreLowSizes}
use Rattle.pt_common_slots.proofs.common.low_sizes.Given as goal

abbrev pub invariant-loop-at : goal.invariant-loop-at
invariant-loop-at l = AreLowSizes l.limit (take l.at l.sizes) l.low.items
