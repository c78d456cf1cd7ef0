use Rattle.std.proofs.Common.{◌≡◌, ℕ, List, [], drop, take}
use Rattle.pt_scopes.specs.Refusals.{earlier, first_fault}
use Rattle.pt_scopes.specs.Tables.{earlier_in, facts_in}
use Rattle.pt_scopes.proofs.refusals.first_fault.Given as goal

abbrev pub invariant-loop-m : goal.invariant-loop-m
invariant-loop-m l = record {
  known : (x : List ℕ) (r : ℕ) → earlier_in l.seen x r ≡ earlier l.table.regions (facts_in l.table.names) (take l.m-index l.mentions) x r;
  left : first_fault l.table.regions (facts_in l.table.names) (take l.m-index l.mentions) (drop l.m-index l.mentions) ≡ first_fault l.table.regions (facts_in l.table.names) [] l.mentions;
}
