use Rattle.law_marks.proofs.Marks.{unmarked_as_run}
use Rattle.law_marks.proofs.Moves.{moves_as_run}
use Rattle.law_marks.proofs.laws.instructions_without_marks_take_no_unit.Goals as goal

pub returns-clause-asks : goal.returns-clause-asks
returns-clause-asks g c = unmarked_as_run

pub returns-clause-moves : goal.returns-clause-moves
returns-clause-moves g c = moves_as_run
