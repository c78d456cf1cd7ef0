use Rattle.std.proofs.Common.{[], false}
use Rattle.pt_sizes.specs.Waiting.{levels_of}
use Rattle.pt_sizes.specs.Search.{OpenNow, body_of}
use Rattle.pt_sizes.proofs.flow.sizes_of.Given as goal

abbrev pub invariant-loop-at : goal.invariant-loop-at
invariant-loop-at l = OpenNow (body_of l.asked.places.items l.asked.rows.items l.asked.first) l.at l.search.table.items [] (levels_of l.search.waiting.levels) false false
