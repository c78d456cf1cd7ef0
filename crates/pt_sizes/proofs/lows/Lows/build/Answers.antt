use Rattle.std.proofs.Common.{◌≡◌, ◌+◌, ◌*◌, ℕ, map, sym, subst, arith}
use Rattle.std.specs.Prelude.{min}
use Rattle.pt_sizes.specs.Lows.{below, low_at, LowsSoFar}
use Rattle.pt_sizes.proofs.LowLemmas.{lowering_start, lowering_more, lowering_end, levels_push}
use Rattle.pt_sizes.proofs.lows.Lows.build.Goals as goal

pub loop-size-init : goal.loop-size-init
loop-size-init c =
    let numbers = below c.args.places.now c.args.table.now c.args.limit in
    subst (λ xs. LowsSoFar numbers c.args.limit c.args.limit (map (λ level. level.items) xs) c.in_ok-level.level.items) (sym c.new-levels.ensures.items)
    (lowering_start numbers c.args.limit c.in_ok-level.level.items c.in_ok-level.ensures)

pub loop-size-preserved : goal.loop-size-preserved
loop-size-preserved c =
    let numbers = below c.args.places.now c.args.table.now c.args.limit in
    lowering_more numbers c.args.limit c.loop-size.size (map (λ level. level.items) c.loop-size.levels.items) (map (λ level. level.items) c.push.new.self.items) c.loop-size.level.items
    c.in_ok-above.above.items c.loop-size.invariant
    (subst (λ xs. (v : ℕ) → low_at c.in_ok-above.above.items v ≡ min (low_at xs (2 * v)) (low_at xs (2 * v + 1))) c.deref.ensures.value c.in_ok-above.ensures)
    (levels_push c.loop-size.levels c.push.new.self c.loop-size.level c.in_ok-push.ensures.items)

pub returns : goal.returns
returns c =
    let numbers = below c.args.places.now c.args.table.now c.args.limit in
    let levels = map (λ level. level.items) c.loop-size.levels.items in
    lowering_end numbers c.args.limit levels c.loop-size.level.items
    (subst (λ n. LowsSoFar numbers c.args.limit n levels c.loop-size.level.items) (let e : c.loop-size.size ≡ 0 = omega (arith, c.loop-size-test.false) in e) c.loop-size.invariant)
