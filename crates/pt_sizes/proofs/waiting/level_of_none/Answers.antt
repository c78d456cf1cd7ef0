use Rattle.std.proofs.Common.{◌≡◌, ◌+◌, subst, arith}
use Rattle.pt_sizes.specs.Waiting.{BareTo, level_of}
use Rattle.pt_sizes.proofs.Adding.{bare_push}
use Rattle.pt_sizes.proofs.waiting.level_of_none.Goals as goal

pub loop-counter-preserved : goal.loop-counter-preserved
loop-counter-preserved c = bare_push c.loop-counter.counter c.loop-counter.level c.push.new.self c.new.result c.loop-counter.invariant c.new.ensures.items c.in_ok-push.ensures.items

pub returns : goal.returns
returns c =
    let e : c.loop-counter.counter ≡ c.args.size = omega (arith, c.loop-counter-test.false, c.loop-counter.auto.counter-end) in
    subst (λ n. BareTo (n + 1) (level_of c.push-2.new.self)) e
    (bare_push c.loop-counter.counter c.loop-counter.level c.push-2.new.self c.new-2.result c.loop-counter.invariant c.new-2.ensures.items c.in_ok-push-2.ensures.items)
