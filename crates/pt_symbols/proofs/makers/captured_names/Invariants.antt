use Rattle.std.proofs.Common.{◌≡◌, ℕ, List, take}
use Rattle.std.specs.List.{list_any}
use Rattle.sem_names.specs.Naming.{is_captured_by}
use Rattle.pt_scopes.specs.NameSets.{is_in}
use Rattle.pt_symbols.proofs.makers.captured_names.Given as goal

abbrev pub invariant-loop-m : goal.invariant-loop-m
invariant-loop-m l = (q : ℕ) (x : List ℕ) → is_in l.captured q x ≡ list_any (is_captured_by l.places q x) (take l.m-index l.mentions)
