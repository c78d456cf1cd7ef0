use Rattle.std.proofs.Common.{◌≡◌, ◌+◌, ◌-◌, length, ℕ}
use Rattle.pt_symbols.specs.Tables.{mentions_in}
use Rattle.pt_symbols.proofs.mentions.MentionTable.reach.Given as goal

abbrev pub invariant-loop-alloc : goal.invariant-loop-alloc
invariant-loop-alloc l = (r : ℕ) → mentions_in l.self r ≡ mentions_in l.fn.self r

abbrev pub decreases-loop-alloc : goal.decreases-loop-alloc
decreases-loop-alloc l = l.region + 1 - length l.self.rows.items
