use Rattle.std.proofs.Common.{◌≡◌, take}
use Rattle.pt_code_facts.specs.Facts.{blocks_of}
use Rattle.pt_code_facts.proofs.facts.blocks_of.Given as goal

abbrev pub invariant-loop-block : goal.invariant-loop-block
invariant-loop-block l = l.facts ≡ blocks_of l.texts (take l.block-index l.blocks)
