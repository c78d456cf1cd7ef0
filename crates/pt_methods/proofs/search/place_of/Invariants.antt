use Rattle.std.proofs.Common.{◌≡◌, drop}
use Rattle.pt_methods.specs.Searches.{place_from}
use Rattle.pt_methods.proofs.search.place_of.Given as goal

abbrev pub invariant-loop-place : goal.invariant-loop-place
invariant-loop-place l = place_from l.heap l.sought l.place (drop l.place l.values) ≡ place_from l.heap l.sought 0 l.values
