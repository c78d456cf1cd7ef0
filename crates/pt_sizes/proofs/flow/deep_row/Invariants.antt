use Rattle.std.proofs.Common.{ℕ, ◌<◌, ◌≡◌, Some}
use Rattle.std.specs.Prelude.{slice_get}
use Rattle.pt_ranges.specs.declared.handlers.Handler.{Handler}
use Rattle.pt_sizes.specs.Search.{DeepBelow}
use Rattle.pt_sizes.proofs.flow.deep_row.Given as goal

abbrev pub invariant-loop-number : goal.invariant-loop-number
invariant-loop-number l = (n : ℕ) (r : Handler) → n < l.number → slice_get l.asked.rows.items n ≡ Some r → DeepBelow l.asked.places.items l.table l.limit r → ⊥
