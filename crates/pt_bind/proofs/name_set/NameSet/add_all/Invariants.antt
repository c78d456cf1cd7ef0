use Rattle.std.proofs.Common.{◌≡◌, ℕ, List, take}
use Rattle.std.specs.Prelude.{◌||◌}
use Rattle.pt_bind.specs.NameSets.{has_name, is_among}
use Rattle.pt_bind.proofs.name_set.NameSet.add_all.Given as goal

abbrev pub invariant-loop-name : goal.invariant-loop-name
invariant-loop-name l = (x : List ℕ) → has_name l.self x ≡ (is_among (take l.name-index l.names) x || has_name l.initial.self x)
