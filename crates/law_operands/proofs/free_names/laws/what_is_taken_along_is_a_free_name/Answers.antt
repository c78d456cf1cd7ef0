use Rattle.law_operands.proofs.free_names.Taken.{taken_along_is_free}
use Rattle.law_operands.proofs.free_names.laws.what_is_taken_along_is_a_free_name.Goals as goal

pub returns : goal.returns
returns c = taken_along_is_free
