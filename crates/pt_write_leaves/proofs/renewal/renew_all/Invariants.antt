use Rattle.std.proofs.Common.{◌≡◌, ◌++◌, drop, map}
use Rattle.pt_tree.specs.Fold.{clause_of, clauses_of, behind}
use Rattle.sem_control.specs.control.Expressions.{target_names, clause_names}
use Rattle.pt_expr_forms.specs.Loops.{behind_renewal}
use Rattle.pt_write_leaves.proofs.renewal.renew_all.Given as goal

abbrev pub invariant-loop-clause : goal.invariant-loop-clause
invariant-loop-clause l = behind_renewal l.at.names.now l.at.within.now (clause_names (clauses_of (map clause_of (drop l.clause-index l.rest)))) l.w
    ≡ behind_renewal l.at.names.now l.at.within.now
    (target_names (clause_of l.first).target ++ clause_names (behind (clause_of l.first) (map clause_of l.rest))) l.fn.w
