use Rattle.std.proofs.Common.{◌-◌}
use Rattle.pt_kinds.specs.Forest.{list_at}
use Rattle.pt_kinds.proofs.CommonLemmas.{IsCommonWithin}
use Rattle.pt_kinds.proofs.forest.Forest.common.Given as goal

abbrev pub invariant-loop-low : goal.invariant-loop-low
invariant-loop-low l = IsCommonWithin (list_at l.self l.one) (list_at l.self l.other) l.low l.high

abbrev pub decreases-loop-low : goal.decreases-loop-low
decreases-loop-low l = l.high - l.low
