use Rattle.std.proofs.Common.{arith}
use Rattle.std.proofs.lemmas.Grind.{common_steps}
use Rattle.pt_block_shapes.proofs.outliner.Steps.{behind-both, behind-nothing}
use Rattle.pt_block_shapes.proofs.outline.statements.items.Goals as goal

pub loop-item-preserved : goal.loop-item-preserved
loop-item-preserved c = grind (arith, common_steps, behind-both)

pub returns : goal.returns
returns c = grind (arith, common_steps, behind-nothing)
