use Rattle.sem_code.proofs.comp.Steps.{active_alike, blocks_begin, follows, generators_begin, lambdas_begin, nests_lie, ways_go_on}
use Rattle.sem_code.proofs.comp.laws.the_code_of_a_block_follows_it.Goals as goal

pub returns-clause-blocks : goal.returns-clause-blocks
returns-clause-blocks g c = blocks_begin

pub returns-clause-lambdas : goal.returns-clause-lambdas
returns-clause-lambdas g c = lambdas_begin

pub returns-clause-generators : goal.returns-clause-generators
returns-clause-generators g c = generators_begin

pub returns-clause-follows : goal.returns-clause-follows
returns-clause-follows g c = follows

pub returns-clause-ways : goal.returns-clause-ways
returns-clause-ways g c = ways_go_on

pub returns-clause-active : goal.returns-clause-active
returns-clause-active g c = active_alike

pub returns-clause-lie : goal.returns-clause-lie
returns-clause-lie g c = nests_lie
