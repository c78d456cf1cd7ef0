use Rattle.law_operands.proofs.free_names.Own.{named_is_free}
use Rattle.law_operands.proofs.free_names.laws.a_name_from_further_out_is_a_free_name.Goals as goal

pub returns : goal.returns
returns c = named_is_free
