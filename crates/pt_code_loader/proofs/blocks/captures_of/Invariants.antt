use Rattle.std.proofs.Common.{◌≡◌, take}
use Rattle.pt_code_loader.specs.Loaded.{captures_of}
use Rattle.pt_code_loader.proofs.blocks.captures_of.Given as goal

abbrev pub invariant-loop-block : goal.invariant-loop-block
invariant-loop-block l = l.counts ≡ captures_of (take l.block-index l.blocks)
