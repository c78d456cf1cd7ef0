use Rattle.std.proofs.Common.{◌≡◌, ◌<◌, ℕ, length}
use Rattle.pt_sizes.specs.Flow.{entry}
use Rattle.pt_top_slots.specs.Numbers.{AreNumbers, IsClass}
use Rattle.pt_top_slots.proofs.tops.top_slots.Given as goal

abbrev pub invariant-loop-place : goal.invariant-loop-place
invariant-loop-place l = record {
  are : AreNumbers l.numbers;
  long : length l.classes.items ≡ l.place;
  each : (pc : ℕ) → pc < l.place → IsClass l.joins.nodes.items l.numbers pc (entry l.sizes pc) (entry l.classes.items pc);
}
