use Rattle.std.proofs.Common.{ℕ, ◌<◌}
use Rattle.pt_cut_failures.specs.Cuts.{ShortRow}
use Rattle.pt_cut_failures.proofs.failures.short_row.Given as goal

abbrev pub invariant-loop-at : goal.invariant-loop-at
invariant-loop-at l = (n : ℕ) → n < l.at → ShortRow l.flow l.count l.rows n → ⊥
