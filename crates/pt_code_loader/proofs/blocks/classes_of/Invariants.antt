use Rattle.std.proofs.Common.{◌≡◌, take}
use Rattle.pt_code_loader.specs.Loaded.{classes_of}
use Rattle.pt_code_loader.proofs.blocks.classes_of.Given as goal

abbrev pub invariant-loop-block : goal.invariant-loop-block
invariant-loop-block l = l.classes ≡ classes_of (take l.block-index l.blocks)
