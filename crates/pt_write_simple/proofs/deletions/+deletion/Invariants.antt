use Rattle.std.proofs.Common.{◌≡◌, drop, map}
use Rattle.pt_tree.specs.Fold.{target_of, targets_of}
use Rattle.pt_stm_forms.specs.Simple.{behind_all_deleted}
use Rattle.pt_write_simple.proofs.deletions.+deletion.Given as goal

abbrev pub invariant-deletion-loop-target : goal.invariant-deletion-loop-target
invariant-deletion-loop-target l = behind_all_deleted l.names (targets_of (map target_of (drop l.target-index l.targets))) l.w
    ≡ behind_all_deleted l.names (targets_of (map target_of l.targets)) l.fn.w
