use Rattle.pt_cycles.specs.Search.{IsPut}
use Rattle.pt_cycles.proofs.search.put.Given as goal

abbrev pub invariant-loop-place : goal.invariant-loop-place
invariant-loop-place l = IsPut l.component l.start l.place l.path l.initial.states.items l.states.items
