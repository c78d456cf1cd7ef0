use Rattle.std.proofs.Common.{◌≡◌, ℕ, List, take}
use Rattle.pt_scopes.specs.NameSets.{is_in}
use Rattle.pt_scopes.specs.Scope.{is_captured}
use Rattle.pt_scopes.specs.Tables.{facts_in}
use Rattle.pt_scopes.proofs.scopes.captured.Given as goal

abbrev pub invariant-loop-m : goal.invariant-loop-m
invariant-loop-m l = (r : ℕ) (x : List ℕ) → is_in l.captured r x ≡ is_captured l.table.regions (facts_in l.table.names) (take l.m-index l.mentions) r x
