use Rattle.std.proofs.Common.{◌∙◌, ap}
use Rattle.std.specs.Prelude.{slice_set}
use Rattle.pt_cover.specs.Tallies.{one_within_more}
use Rattle.pt_cover.proofs.ListLemmas.{map-further}
use Rattle.pt_cover.proofs.name_counts.begin_within.Goals as goal

pub loop-row-preserved : goal.loop-row-preserved
loop-row-preserved c =
    ap (slice_set c.loop-row.rows c.loop-row.row-index) c.add_within.ensures
    ∙ map-further one_within_more c.args.rows.now c.loop-row.rows c.loop-row.row-index c.row-item.result c.loop-row-test.true c.loop-row.invariant
