use Rattle.sem_code.proofs.comp_expr.Steps.{all_active, all_lie, begins, begins_to_store}
use Rattle.sem_code.proofs.comp_expr.laws.the_code_of_an_expression_follows_it.Goals as goal

pub returns-clause-begins : goal.returns-clause-begins
returns-clause-begins g c = begins

pub returns-clause-stores : goal.returns-clause-stores
returns-clause-stores g c = begins_to_store

pub returns-clause-active : goal.returns-clause-active
returns-clause-active g c = all_active

pub returns-clause-lies : goal.returns-clause-lies
returns-clause-lies g c = all_lie
