use Rattle.std.proofs.Common.{◌≡◌, map, take}
use Rattle.pt_code_loader.specs.Loaded.{listed_texts}
use Rattle.pt_code_loader.proofs.names.lists_of.Given as goal

abbrev pub invariant-loop-list : goal.invariant-loop-list
invariant-loop-list l = l.named ≡ map (listed_texts l.texts) (take l.list-index l.lists)
