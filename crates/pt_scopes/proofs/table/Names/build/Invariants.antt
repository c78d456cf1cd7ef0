use Rattle.std.proofs.Common.{◌≡◌, ℕ, List, take}
use Rattle.pt_scopes.specs.Scope.{facts}
use Rattle.pt_scopes.specs.Tables.{facts_in}
use Rattle.pt_scopes.proofs.table.Names.build.Given as goal

abbrev pub invariant-loop-m : goal.invariant-loop-m
invariant-loop-m l = (x : List ℕ) (r : ℕ) → facts_in l.names x r ≡ facts (take l.m-index l.mentions) x r
