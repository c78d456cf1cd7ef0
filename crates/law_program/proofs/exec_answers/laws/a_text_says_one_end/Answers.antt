use Rattle.law_program.proofs.exec_answers.Ends.{text_says_one_end}
use Rattle.law_program.proofs.exec_answers.laws.a_text_says_one_end.Goals as goal

pub returns : goal.returns
returns c = text_says_one_end
