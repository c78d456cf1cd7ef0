use Rattle.std.proofs.Common.{arith}
use Rattle.std.proofs.lemmas.Grind.{common_steps}
use Rattle.pt_tree.proofs.Folds.{formal_of-parts}
use Rattle.pt_block_names.proofs.script_names.ScriptNames.add_formals.Goals as goal

pub loop-parameter-preserved : goal.loop-parameter-preserved
loop-parameter-preserved c = grind (arith, common_steps, formal_of-parts c.parameter-item.result)
