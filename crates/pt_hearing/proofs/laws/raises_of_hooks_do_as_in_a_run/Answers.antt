use Rattle.pt_hearing.proofs.Raises.{hook_raises_as_run, raises_as_run}
use Rattle.pt_hearing.proofs.laws.raises_of_hooks_do_as_in_a_run.Goals as goal

pub returns-clause-in_place : goal.returns-clause-in_place
returns-clause-in_place g c = raises_as_run

pub returns-clause-hook : goal.returns-clause-hook
returns-clause-hook g c = hook_raises_as_run
