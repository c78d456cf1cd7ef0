use Rattle.std.proofs.Common.{ℕ, ◌<◌, ◌≤◌, ◌≡◌, Some}
use Rattle.std.specs.Prelude.{slice_get}
use Rattle.pt_ranges.specs.declared.handlers.Handler.{Handler}
use Rattle.pt_block_kinds.proofs.graph.deepest.Given as goal

abbrev pub invariant-loop-at : goal.invariant-loop-at
invariant-loop-at l = (i : ℕ) (row : Handler) → i < l.at → slice_get l.rows i ≡ Some row → row.depth ≤ l.most
