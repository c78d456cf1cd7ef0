use Rattle.law_marks.proofs.Extras.{silent_extras}
use Rattle.law_marks.proofs.laws.operations_of_no_tree_call_nothing.Goals as goal

pub returns : goal.returns
returns c = λ program code has. silent_extras program code has
