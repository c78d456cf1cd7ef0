use Rattle.std.proofs.Common.{◌∙◌, ap}
use Rattle.std.specs.Prelude.{slice_set}
use Rattle.pt_cover.specs.Tallies.{one_call_more}
use Rattle.pt_cover.proofs.ListLemmas.{changed-past, changed-set}
use Rattle.pt_cover.proofs.name_counts.call.Goals as goal

pub returns-then-at-rows : goal.returns-then-at-rows
returns-then-at-rows c =
    ap (slice_set c.args.rows.now c.args.at) c.add_call.ensures ∙ changed-set c.args.rows.now c.args.at (one_call_more c.args.has_span) c.index-rows-at.result c.if-at-rows.true

pub returns-else-at-rows : goal.returns-else-at-rows
returns-else-at-rows c = changed-past c.args.rows.now c.args.at (one_call_more c.args.has_span) c.if-at-rows.false
