use Rattle.law_program.proofs.exec_answers.Ends.{code_file_has_one_answer}
use Rattle.law_program.proofs.exec_answers.laws.a_code_file_has_one_answer.Goals as goal

pub returns : goal.returns
returns c = code_file_has_one_answer
