use Rattle.std.proofs.Common.{arith}
use Rattle.std.proofs.lemmas.Grind.{common_steps}
use Rattle.pt_block_shapes.proofs.outliner.Steps.{behind-both, behind-nothing}
use Rattle.pt_block_shapes.proofs.outline.statements.+deleted.Goals as goal

pub all_deleted-loop-part-preserved : goal.all_deleted-loop-part-preserved
all_deleted-loop-part-preserved t c = grind (arith, common_steps, behind-both)

pub all_deleted-returns : goal.all_deleted-returns
all_deleted-returns t c = grind (arith, common_steps, behind-nothing)
