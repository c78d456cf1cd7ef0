use Rattle.law_marks.proofs.Marks.{code_asks_by_place}
use Rattle.law_marks.proofs.laws.code_asks_from_its_places.Goals as goal

pub returns : goal.returns
returns c = λ code. code_asks_by_place code
