use Rattle.std.proofs.Common.{◌≡◌, ℕ, filter, map, take}
use Rattle.sem_names.specs.BlockNames.{distinct}
use Rattle.sem_names.specs.Naming.{is_free_at}
use Rattle.pt_symbols.specs.Tables.{names_in}
use Rattle.pt_symbols.proofs.makers.free_names.Given as goal

abbrev pub invariant-loop-m : goal.invariant-loop-m
invariant-loop-m l = (r : ℕ) → names_in l.frees r ≡ distinct (map (λ m. m.name) (filter (is_free_at l.places r) (take l.m-index l.mentions)))
