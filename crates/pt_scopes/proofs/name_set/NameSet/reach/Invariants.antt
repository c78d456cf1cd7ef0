use Rattle.std.proofs.Common.{◌≡◌, ◌+◌, ◌-◌, length, ℕ, List}
use Rattle.pt_scopes.specs.NameSets.{is_in}
use Rattle.pt_scopes.proofs.name_set.NameSet.reach.Given as goal

abbrev pub invariant-loop-alloc : goal.invariant-loop-alloc
invariant-loop-alloc l = (r : ℕ) (x : List ℕ) → is_in l.self r x ≡ is_in l.fn.self r x

abbrev pub decreases-loop-alloc : goal.decreases-loop-alloc
decreases-loop-alloc l = l.region + 1 - length l.self.rows.items
