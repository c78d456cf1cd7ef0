use Rattle.std.proofs.Common.{ℕ, ◌<◌, ◌≡◌, length}
use Rattle.pt_sizes.specs.Flow.{entry}
use Rattle.pt_block_limits.specs.Exits.{exits_at}
use Rattle.pt_block_limits.proofs.loops.exits_table.Given as goal

abbrev pub invariant-loop-at : goal.invariant-loop-at
invariant-loop-at l = record {
  long : length l.table.items ≡ l.at;
  each : (pc : ℕ) → pc < l.at → entry l.table.items pc ≡ exits_at (entry l.places pc) (entry l.sizes pc) (entry l.held pc);
}
