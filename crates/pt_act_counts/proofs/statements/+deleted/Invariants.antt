use Rattle.std.proofs.Common.{◌≡◌, ◌+◌, drop, map}
use Rattle.pt_tree.specs.Fold.{target_of, targets_of}
use Rattle.pt_tree.specs.Sizes.{all_deleted_size}
use Rattle.pt_act_counts.proofs.statements.+deleted.Given as goal

abbrev pub invariant-count_all_deleted-loop-target : goal.invariant-count_all_deleted-loop-target
invariant-count_all_deleted-loop-target l = l.acts + all_deleted_size (targets_of (map target_of (drop l.target-index l.targets)))
    ≡ l.fn.acts + all_deleted_size (targets_of (map target_of l.targets))
