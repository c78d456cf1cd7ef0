use Rattle.law_code_jumps.proofs.told_code.Answered.{told_code_answers_jumps}
use Rattle.law_code_jumps.proofs.told_code.laws.told_code_answers_by_slots.Goals as goal

pub returns : goal.returns
returns g c = told_code_answers_jumps
