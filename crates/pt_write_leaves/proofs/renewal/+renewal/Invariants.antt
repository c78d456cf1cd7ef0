use Rattle.std.proofs.Common.{◌≡◌, drop, map}
use Rattle.pt_tree.specs.Fold.{target_of, targets_of}
use Rattle.sem_control.specs.control.Expressions.{all_target_names}
use Rattle.pt_expr_forms.specs.Loops.{behind_renewal}
use Rattle.pt_write_leaves.proofs.renewal.+renewal.Given as goal

abbrev pub invariant-renew_targets-loop-target : goal.invariant-renew_targets-loop-target
invariant-renew_targets-loop-target l = behind_renewal l.at.names.now l.at.within.now (all_target_names (targets_of (map target_of (drop l.target-index l.targets)))) l.w
    ≡ behind_renewal l.at.names.now l.at.within.now (all_target_names (targets_of (map target_of l.targets))) l.fn.w
