use Rattle.std.proofs.Common.{arith}
use Rattle.std.proofs.lemmas.Grind.{common_steps}
use Rattle.pt_places.proofs.InnermostLemmas.{rows_taken}
use Rattle.pt_places.proofs.innermost.first_by_place.Goals as goal

pub loop-row-preserved : goal.loop-row-preserved
loop-row-preserved c = record {
  first = rows_taken c.args.rows.now c.loop-row.row-index _ c.loop-row.filling.table.items c.put.new.self.table.items c.loop-row.invariant.first c.put.ensures.put (grind (arith, common_steps));
  skips = c.put.ensures.skips;
}
