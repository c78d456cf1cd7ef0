use Rattle.pt_code_slots.specs.Blocks.{HasTablesBelow}
use Rattle.pt_code_slots.proofs.blocks.code_slots.Given as goal

abbrev pub invariant-loop-block : goal.invariant-loop-block
invariant-loop-block l = HasTablesBelow l.code l.blocks.items l.block-index
