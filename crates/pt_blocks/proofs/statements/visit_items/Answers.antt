use Rattle.std.proofs.Common.{arith}
use Rattle.std.proofs.lemmas.Grind.{common_steps}
use Rattle.pt_blocks.proofs.Walk.{behind_blocks-append}
use Rattle.pt_blocks.proofs.statements.visit_items.Goals as goal

pub loop-item-preserved : goal.loop-item-preserved
loop-item-preserved g c =
    grind (arith, common_steps, behind_blocks-append)
