use Rattle.std.proofs.Common.{arith}
use Rattle.std.proofs.lemmas.Grind.{common_steps}
use Rattle.pt_scopes.proofs.Behind.{behind-both, behind-nothing}
use Rattle.pt_scopes.proofs.statements.declared.Goals as goal

pub loop-name-preserved : goal.loop-name-preserved
loop-name-preserved c = grind (arith, common_steps, behind-both)

pub returns : goal.returns
returns c = grind (arith, common_steps, behind-nothing)
