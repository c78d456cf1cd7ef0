use Rattle.law_names.proofs.next_numbers.Found.{found}
use Rattle.law_names.proofs.next_numbers.laws.a_number_is_of_one_comprehension.Goals as goal

pub returns : goal.returns
returns c = λ ss r n here at as_well. found ss r n here at as_well
