use Rattle.law_steps.proofs.sessions.Running.{ends_the_run, goes_on_by_advice, ends_by_advice}
use Rattle.law_steps.proofs.sessions.laws.steps_and_advice_are_the_run.Goals as goal

pub returns-clause-ends : goal.returns-clause-ends
returns-clause-ends g c = ends_the_run

pub returns-clause-goes : goal.returns-clause-goes
returns-clause-goes g c = goes_on_by_advice

pub returns-clause-quits : goal.returns-clause-quits
returns-clause-quits g c = ends_by_advice
