use Rattle.std.proofs.Common.{◌≡◌, ◌<◌, arith}
use Rattle.pt_takers.proofs.NumberLemmas.{numbered_more}
use Rattle.pt_takers.proofs.takers.always_rows.Goals as goal

pub loop-at-preserved : goal.loop-at-preserved
loop-at-preserved c =
    let same : c.in-Ok.number ≡ c.loop-at.at = omega (arith, c.in-Ok.ensures) in
    let low : c.in-Ok.number < 4294967296 = omega (arith, c.in-Ok.ensures) in
    numbered_more c.args.rows.now c.loop-at.at c.in-Ok.number _ c.loop-at-test.true same low c.loop-at.found.items c.add_numbered.new.found.items
    c.loop-at.invariant c.in_ok-add_numbered.ensures
