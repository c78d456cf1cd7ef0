use Rattle.std.proofs.Common.{◌≡◌, ◌∙◌, sym, arith}
use Rattle.pt_sizes.specs.Lows.{below}
use Rattle.pt_sizes.proofs.LowLemmas.{level_push, low_all, below_within, below_beyond}
use Rattle.pt_sizes.proofs.lows.lowest_level.Goals as goal

pub loop-at-preserved : goal.loop-at-preserved
loop-at-preserved c = level_push c.loop-at.level.items c.push.new.self.items c.below_at.result (below c.args.places.now c.args.table.now c.args.limit) c.loop-at.at c.loop-at.invariant
    (c.below_at.ensures ∙ sym (below_within c.args.places.now c.args.table.now c.args.limit c.loop-at.at c.loop-at-test.true)) c.in_ok-push.ensures.items

pub returns : goal.returns
returns c = low_all c.loop-at.level.items (below c.args.places.now c.args.table.now c.args.limit) c.loop-at.invariant.1
    (λ v h. below_beyond c.args.places.now c.args.table.now c.args.limit v (omega (arith, h, c.loop-at.invariant.0, c.loop-at-test.false)))
