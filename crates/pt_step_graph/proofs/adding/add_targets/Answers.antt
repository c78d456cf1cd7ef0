use Rattle.std.proofs.Common.{◌∙◌, false}
use Rattle.pt_ranges.specs.declared.handlers.Handler.{Handler}
use Rattle.pt_step_graph.proofs.Lists.{targets_more}
use Rattle.pt_step_graph.proofs.adding.add_targets.Goals as goal

abbrev none_there : Handler
none_there = record { from = record { 0 = 0 }; to = record { 0 = 0 }; target = record { 0 = 0 }; depth = 0; always = false }

pub loop-number-preserved : goal.loop-number-preserved
loop-number-preserved c = c.in_ok-add_place.ensures
    ∙ targets_more c.args.count c.args.rows.now c.loop-number.number c.args.work.now.items c.loop-number.work.items
    none_there c.loop-number-test.true c.loop-number.invariant
