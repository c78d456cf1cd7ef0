use Rattle.std.proofs.Common.{arith}
use Rattle.std.proofs.lemmas.Grind.{common_steps}
use Rattle.pt_scopes.proofs.Behind.{behind-nothing}
use Rattle.pt_scopes.proofs.statements.imports.Goals as goal

pub returns : goal.returns
returns c = grind (arith, common_steps, behind-nothing)
