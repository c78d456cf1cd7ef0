use Rattle.std.proofs.Common.{◌≡◌, ◌+◌, ◌∙◌, ◌++◌, ap, arith, length, min, subst}
use Rattle.pt_places.specs.PlaceTable as T
use Rattle.pt_sizes.specs.Flow.{entry}
use Rattle.pt_common_slots.specs.Joins.{IsOwnBelow, own_joins}
use Rattle.pt_row_joins.specs.Rows.{Lists}
use Rattle.pt_common_slots.proofs.Loops.{own_more}
use Rattle.pt_common_slots.proofs.own.own_joins.Goals as goal

pub loop-at-preserved : goal.loop-at-preserved
loop-at-preserved c =
    let same : c.in-Ok.pc ≡ c.loop-at.at = omega (arith, c.in-Ok.ensures) in
    own_more c.args.places.now c.args.sizes.now c.loop-at.at c.loop-at.joins.items c.add_own.new.joins.items c.loop-at.invariant
    (c.in_ok-add_own.ensures ∙ ap (λ o. c.loop-at.joins.items ++ own_joins c.args.sizes.now c.loop-at.at o (entry c.args.sizes.now c.loop-at.at))
    (c.at.ensures ∙ ap (λ k. T.entry c.args.places.now k) same))

pub returns : goal.returns
returns c =
    let e : c.loop-at.at ≡ min (length c.args.sizes.now) (c.args.limit.0 + 1) = omega (arith, c.loop-at-test.false, c.loop-at.auto.at-end) in
    subst (λ n. Lists (IsOwnBelow c.args.places.now c.args.sizes.now n) c.loop-at.joins.items) e c.loop-at.invariant
