use Rattle.std.proofs.Common.{subst, arith}
use Rattle.pt_sizes.specs.Waiting.{WaitingSoFar, levels_of}
use Rattle.pt_sizes.proofs.Adding.{building_start, building_ready, building_more, building_none}
use Rattle.pt_sizes.proofs.waiting.Waiting.build.Goals as goal

pub loop-row-init : goal.loop-row-init
loop-row-init c = building_start c.args.rows.now c.args.count c.in_ok-left.left.items (levels_of c.in_ok-levels_of_none.field-0) c.in_ok-left.ensures.rises c.in_ok-left.ensures.into
    c.in_ok-left.ensures.from c.in_ok-levels_of_none.ensures

pub add-requires : goal.add-requires
add-requires c = building_ready c.args.rows.now c.args.count c.pop.new.self.items c.in-Some.row (levels_of c.loop-row.waiting.levels)
    (subst (λ xs. WaitingSoFar c.args.rows.now xs c.args.count (levels_of c.loop-row.waiting.levels)) c.in-Some.ensures.items c.loop-row.invariant)

pub loop-row-preserved : goal.loop-row-preserved
loop-row-preserved c = building_more c.args.rows.now c.args.count c.pop.new.self.items c.in-Some.row (levels_of c.loop-row.waiting.levels)
    (subst (λ xs. WaitingSoFar c.args.rows.now xs c.args.count (levels_of c.loop-row.waiting.levels)) c.in-Some.ensures.items c.loop-row.invariant)
    (levels_of c.add.new.self.levels) c.in_ok-add.ensures

pub returns : goal.returns
returns c = building_none c.args.rows.now c.args.count c.loop-row.left.items c.pop.new.self.items (levels_of c.loop-row.waiting.levels) c.loop-row.invariant c.in_default.ensures.items
    (omega (arith, c.in_default.ensures.cases, c.in_default.ensures.variant, c.in_default.ensures.len))
