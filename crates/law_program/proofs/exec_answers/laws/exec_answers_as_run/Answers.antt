use Rattle.law_program.proofs.exec_answers.Answers.{exec_answers_as_run, exec_has_one_answer, run_answers_as_exec}
use Rattle.law_program.proofs.exec_answers.laws.exec_answers_as_run.Goals as goal

pub returns-clause-exec : goal.returns-clause-exec
returns-clause-exec c = exec_answers_as_run

pub returns-clause-one : goal.returns-clause-one
returns-clause-one c = exec_has_one_answer

pub returns-clause-run : goal.returns-clause-run
returns-clause-run c = run_answers_as_exec
