use Rattle.pt_sizes.specs.Waiting.{levels_of, levels_size}
use Rattle.pt_sizes.specs.Search.{OpenNow, body_of, weight}
use Rattle.pt_sizes.proofs.flow.Search.settle.Given as goal

abbrev pub invariant-loop-step : goal.invariant-loop-step
invariant-loop-step l = OpenNow (body_of l.asked.places.items l.asked.rows.items l.asked.first) l.limit l.self.table.items l.self.work.items (levels_of l.self.waiting.levels) l.self.deep l.self.few

abbrev pub decreases-loop-step : goal.decreases-loop-step
decreases-loop-step l = weight l.self.table.items l.self.work.items (levels_size (levels_of l.self.waiting.levels))
