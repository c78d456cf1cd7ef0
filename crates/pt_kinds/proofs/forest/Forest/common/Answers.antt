use Rattle.std.proofs.Common.{◌≡◌, ◌+◌, ◌-◌, ◌/◌, ◌<◌, ◌≤◌, arith}
use Rattle.pt_kinds.specs.Forest.{list_at}
use Rattle.pt_kinds.proofs.CommonLemmas.{common_less}
use Rattle.pt_kinds.proofs.forest.Forest.common.Goals as goal

pub loop-low-preserved : goal.loop-low-preserved
loop-low-preserved c =
    let low = c.loop-low.low in let high = c.loop-low.high in
    let lt : low < high = omega (arith, c.loop-low-test.true) in
    let above : low < high - (high - low) / 2 = omega (arith, lt) in
    let under : high - (high - low) / 2 ≤ high = omega arith in
    let one : high - (high - low) / 2 - 1 + 1 ≡ high - (high - low) / 2 = omega (arith, lt, above) in
    common_less (list_at c.args.self.now c.args.one) (list_at c.args.self.now c.args.other) low high c.loop-low.invariant (high - (high - low) / 2) above under c.if-agrees-2.ensures
    (high - (high - low) / 2 - 1) one
