use Rattle.std.proofs.Common.{sym, subst, arith}
use Rattle.pt_sizes.specs.Waiting.{StretchLandingSoFar, StretchLanding}
use Rattle.pt_sizes.proofs.Landings.{some_more, some_end, some_none}
use Rattle.pt_sizes.proofs.waiting.land_some.Goals as goal

pub loop-row-preserved : goal.loop-row-preserved
loop-row-preserved c =
    let inv = subst (λ r. StretchLandingSoFar c.args.rows.now.items r c.args.below c.args.work.now.items c.loop-row.work.items) c.in-Some.ensures.items c.loop-row.invariant in
    subst (λ w. StretchLandingSoFar c.args.rows.now.items c.pop.new.self.items c.args.below c.args.work.now.items w) (sym c.in_ok-push-2.ensures.items)
    (some_more c.args.rows.now.items c.pop.new.self.items c.in-Some.row c.args.below c.args.work.now.items c.loop-row.work.items inv (omega arith))

pub returns-then-row-below : goal.returns-then-row-below
returns-then-row-below c =
    let inv = subst (λ r. StretchLandingSoFar c.args.rows.now.items r c.args.below c.args.work.now.items c.loop-row.work.items) c.in-Some.ensures.items c.loop-row.invariant in
    subst (λ r. StretchLanding c.args.rows.now.items r c.args.below c.args.work.now.items c.loop-row.work.items) (sym c.in_ok-push.ensures.items)
    (some_end c.args.rows.now.items c.pop.new.self.items c.in-Some.row c.args.below c.args.work.now.items c.loop-row.work.items inv (omega arith))

pub returns : goal.returns
returns c = some_none c.args.rows.now.items c.loop-row.rows.items c.pop.new.self.items c.args.below c.args.work.now.items c.loop-row.work.items c.loop-row.invariant
    c.in_default.ensures.items (omega (arith, c.in_default.ensures.cases, c.in_default.ensures.variant, c.in_default.ensures.len))
