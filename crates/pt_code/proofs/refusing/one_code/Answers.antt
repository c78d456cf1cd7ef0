use Rattle.pt_code.proofs.Whole.{one_file}
use Rattle.pt_code.proofs.refusing.one_code.Goals as goal

pub returns : goal.returns
returns c = one_file
