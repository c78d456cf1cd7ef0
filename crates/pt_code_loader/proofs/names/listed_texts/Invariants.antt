use Rattle.std.proofs.Common.{◌≡◌, take}
use Rattle.pt_code_loader.specs.Loaded.{listed_texts}
use Rattle.pt_code_loader.proofs.names.listed_texts.Given as goal

abbrev pub invariant-loop-number : goal.invariant-loop-number
invariant-loop-number l = l.names ≡ listed_texts l.texts (take l.number-index l.list)
