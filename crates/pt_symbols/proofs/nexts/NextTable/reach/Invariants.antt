use Rattle.std.proofs.Common.{◌≡◌, ◌+◌, ◌-◌, length, ℕ}
use Rattle.pt_symbols.specs.Tables.{next_in}
use Rattle.pt_symbols.proofs.nexts.NextTable.reach.Given as goal

abbrev pub invariant-loop-alloc : goal.invariant-loop-alloc
invariant-loop-alloc l = (h n : ℕ) → next_in l.self h n ≡ next_in l.fn.self h n

abbrev pub decreases-loop-alloc : goal.decreases-loop-alloc
decreases-loop-alloc l = l.block + 1 - length l.self.rows.items
