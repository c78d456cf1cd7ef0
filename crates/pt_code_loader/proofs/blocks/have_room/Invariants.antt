use Rattle.std.proofs.Common.{◌+◌, ◌<◌, ◌^◌, length, take}
use Rattle.std.specs.List.{AllByRecursion}
use Rattle.pt_code.specs.declared.CodeBlock.{CodeBlock}
use Rattle.pt_code_loader.proofs.blocks.have_room.Given as goal

abbrev pub invariant-loop-block : goal.invariant-loop-block
invariant-loop-block l = AllByRecursion (λ (b : CodeBlock). length b.cells + length b.free < 2 ^ 32) (take l.block-index l.blocks)
