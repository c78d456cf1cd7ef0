use Rattle.std.proofs.Common.{ℕ, ◌<◌, ◌≡◌, length}
use Rattle.pt_cycles.specs.declared.search.State.TheVariants.{Done}
use Rattle.pt_cycles.specs.Graphs.{number_of}
use Rattle.pt_cycles.specs.Search.{state_of}
use Rattle.pt_cycles.proofs.search.numbers.Given as goal

abbrev pub invariant-loop-state : goal.invariant-loop-state
invariant-loop-state l = record {
  long : length l.table.items ≡ l.state-index;
  has : (v k : ℕ) → v < l.state-index → state_of l.states v ≡ Done k → number_of l.table.items v ≡ k;
}
