use Rattle.pt_dicts.proofs.SameLemmas.{codes-same}
use Rattle.pt_dicts.proofs.laws.a_key_is_of_one_value.Goals as goal

pub returns : goal.returns
returns c = codes-same
