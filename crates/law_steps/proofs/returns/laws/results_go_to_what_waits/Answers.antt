use Rattle.law_steps.proofs.returns.Returning.{returns_to_call, returns_to_hook, gives_on_to_call, ends_to_call}
use Rattle.law_steps.proofs.returns.laws.results_go_to_what_waits.Goals as goal

pub returns-clause-call : goal.returns-clause-call
returns-clause-call g c = returns_to_call

pub returns-clause-hook : goal.returns-clause-hook
returns-clause-hook g c = returns_to_hook

pub returns-clause-gives_on : goal.returns-clause-gives_on
returns-clause-gives_on g c = gives_on_to_call

pub returns-clause-ends : goal.returns-clause-ends
returns-clause-ends g c = ends_to_call
