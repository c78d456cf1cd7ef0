use Rattle.law_code_jumps.proofs.bare_runs.Turns.{code_bare_runs_are_runs, code_bare_fronts_are_fronts}
use Rattle.law_code_jumps.proofs.bare_runs.laws.bare_runs_of_code_are_its_runs.Goals as goal

pub returns-clause-runs : goal.returns-clause-runs
returns-clause-runs g c = code_bare_runs_are_runs

pub returns-clause-fronts : goal.returns-clause-fronts
returns-clause-fronts g c = code_bare_fronts_are_fronts
