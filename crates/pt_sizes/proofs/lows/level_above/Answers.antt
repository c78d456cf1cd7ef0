use Rattle.std.proofs.Common.{◌≡◌, ◌+◌, ◌*◌, ◌/◌, ◌%◌, ℕ, length, ap, ◌∙◌, refl, arith}
use Rattle.std.specs.Prelude.{min}
use Rattle.pt_sizes.specs.Lows.{low_at}
use Rattle.pt_sizes.proofs.LowLemmas.{level_push, low_all, above_beyond}
use Rattle.pt_sizes.proofs.lows.level_above.Goals as goal

pub loop-node-preserved : goal.loop-node-preserved
loop-node-preserved c = level_push c.loop-node.above.items c.push.new.self.items c.min.result (λ v. min (low_at c.args.level.now (2 * v)) (low_at c.args.level.now (2 * v + 1))) c.loop-node.node
    c.loop-node.invariant
    (c.min.ensures ∙ (ap (λ x. min x c.low_at-in-loop-node.result) c.low_at.ensures ∙ ap (λ x. min (low_at c.args.level.now (2 * c.loop-node.node)) x) c.low_at-in-loop-node.ensures))
    c.in_ok-push.ensures.items

pub returns : goal.returns
returns c = low_all c.loop-node.above.items (λ v. min (low_at c.args.level.now (2 * v)) (low_at c.args.level.now (2 * v + 1))) c.loop-node.invariant.1
    (λ v h. above_beyond c.args.level.now (length c.args.level.now / 2 + length c.args.level.now % 2) refl v (omega (arith, h, c.loop-node.invariant.0, c.loop-node-test.false)))
