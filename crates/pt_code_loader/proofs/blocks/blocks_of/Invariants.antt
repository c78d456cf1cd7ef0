use Rattle.std.proofs.Common.{take}
use Rattle.pt_code_loader.specs.Loaded.{AreLoaded}
use Rattle.pt_code_loader.proofs.blocks.blocks_of.Given as goal

abbrev pub invariant-loop-block : goal.invariant-loop-block
invariant-loop-block l = AreLoaded l.code (take l.block-index l.blocks) l.loaded
