use Rattle.pt_bare_code.proofs.Coded.{has_the_bare_runs, is_stuck_nowhere_else, code_writes_nothing_else}
use Rattle.pt_bare_code.proofs.laws.code_has_the_bare_runs_of_its_script.Goals as goal

pub returns-clause-outcomes : goal.returns-clause-outcomes
returns-clause-outcomes g c = λ source code of host n block names world. has_the_bare_runs source code of host n block names world

pub returns-clause-stuck : goal.returns-clause-stuck
returns-clause-stuck g c = λ source code of host n block names world. is_stuck_nowhere_else source code of host n block names world

pub returns-clause-writes : goal.returns-clause-writes
returns-clause-writes g c = λ source code of host n block names world. code_writes_nothing_else source code of host n block names world
