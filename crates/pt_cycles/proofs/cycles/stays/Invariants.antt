use Rattle.std.proofs.Common.{ℕ, ◌<◌, ◌≡◌, length}
use Rattle.pt_cycles.specs.Graphs.{number_of}
use Rattle.pt_cycles.specs.Search.{at}
use Rattle.pt_cycles.proofs.cycles.stays.Given as goal

abbrev pub invariant-loop-next : goal.invariant-loop-next
invariant-loop-next g l = (k : ℕ) → k < l.next-index → at l.next-items k < length l.table → number_of l.table (at l.next-items k) ≡ number_of l.table l.vertex
    → ⊥
