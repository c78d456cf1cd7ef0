use Rattle.std.proofs.Common.{drop}
use Rattle.std.specs.List.{AllByRecursion}
use Rattle.law_files.specs.code_files.Numbers.{BlockFits}
use Rattle.pt_compile.proofs.numbers.check_blocks.Given as goal

abbrev pub invariant-loop-block : goal.invariant-loop-block
invariant-loop-block l = AllByRecursion BlockFits (drop l.block-index l.blocks) → AllByRecursion BlockFits l.blocks
