use Rattle.std.proofs.Common.{◌≡◌, List, length}
use Rattle.pt_ranges.specs.declared.handlers.Handler.{Handler}
use Rattle.pt_sizes.specs.Waiting.{AreDeepest, AllWait, levels_of}
use Rattle.pt_sizes.proofs.waiting.Waiting.deepest.Given as goal

abbrev pub invariant-loop-at : goal.invariant-loop-at
invariant-loop-at l = (length l.table.items ≡ l.at) × ((rows : List Handler) → AllWait rows l.count (levels_of l.self.levels) → AreDeepest rows l.table.items l.at)
