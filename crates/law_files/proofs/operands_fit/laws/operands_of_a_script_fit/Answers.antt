use Rattle.law_files.proofs.operands_fit.Operands.{operands_fit}
use Rattle.law_files.proofs.operands_fit.laws.operands_of_a_script_fit.Goals as goal

pub returns : goal.returns
returns c = operands_fit
