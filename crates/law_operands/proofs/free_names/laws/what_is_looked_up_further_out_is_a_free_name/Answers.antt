use Rattle.law_operands.proofs.free_names.Lookups.{looked_up}
use Rattle.law_operands.proofs.free_names.laws.what_is_looked_up_further_out_is_a_free_name.Goals as goal

pub returns : goal.returns
returns c = looked_up
