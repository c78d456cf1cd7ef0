use Rattle.std.proofs.Common.{◌≡◌, ◌≤◌, drop}
use Rattle.pt_methods.specs.Searches.{count_of}
use Rattle.pt_methods.proofs.SearchLemmas.{with_others}
use Rattle.pt_methods.proofs.search.count_of.Given as goal

abbrev pub invariant-loop-value : goal.invariant-loop-value
invariant-loop-value l = (l.count ≤ l.value-index)
    × (with_others l.count (count_of l.heap l.sought (drop l.value-index l.values)) ≡ count_of l.heap l.sought l.values)
