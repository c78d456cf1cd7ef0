use Rattle.pt_tree.proofs.Counts.{count_exp, count_clauses, count_target, count_deleted, count_params, count_stms}
use Rattle.pt_tree.proofs.laws.a_size_counts_the_acts.Goals as goal

pub returns-clause-expression : goal.returns-clause-expression
returns-clause-expression c = count_exp

pub returns-clause-clauses : goal.returns-clause-clauses
returns-clause-clauses c = count_clauses

pub returns-clause-target : goal.returns-clause-target
returns-clause-target c = count_target

pub returns-clause-deleted : goal.returns-clause-deleted
returns-clause-deleted c = count_deleted

pub returns-clause-parameters : goal.returns-clause-parameters
returns-clause-parameters c = count_params

pub returns-clause-statements : goal.returns-clause-statements
returns-clause-statements c = count_stms
