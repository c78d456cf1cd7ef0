use Rattle.std.proofs.Common.{arith}
use Rattle.pt_top_slots.specs.Numbers.{root, alone}
use Rattle.pt_top_slots.proofs.tops.root_of.Goals as goal

pub returns-then-place-len : goal.returns-then-place-len
returns-then-place-len c = root c.root_at.ensures

pub returns-else-place-len : goal.returns-else-place-len
returns-else-place-len c = alone (omega (arith, c.if-place-len.false, c.len.ensures))
