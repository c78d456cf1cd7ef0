use Rattle.pt_turning.proofs.OfCode.{is_of_itself}
use Rattle.pt_turning.proofs.laws.code_is_a_machine_of_code.Goals as goal

pub returns : goal.returns
returns c = is_of_itself
