use Rattle.law_marks.proofs.Marks.{marked_as_run}
use Rattle.law_marks.proofs.laws.instructions_with_marks_are_acts.Goals as goal

pub returns : goal.returns
returns g c = marked_as_run
