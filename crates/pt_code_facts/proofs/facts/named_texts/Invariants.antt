use Rattle.std.proofs.Common.{◌≡◌, take}
use Rattle.pt_code_facts.specs.Facts.{named_texts}
use Rattle.pt_code_facts.proofs.facts.named_texts.Given as goal

abbrev pub invariant-loop-number : goal.invariant-loop-number
invariant-loop-number l = l.names ≡ named_texts l.texts (take l.number-index l.numbers)
