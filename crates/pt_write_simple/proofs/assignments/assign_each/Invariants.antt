use Rattle.std.proofs.Common.{◌≡◌, drop, map}
use Rattle.pt_tree.specs.Fold.{target_of, targets_of}
use Rattle.pt_stm_forms.specs.Simple.{behind_each}
use Rattle.pt_write_simple.proofs.assignments.assign_each.Given as goal

abbrev pub invariant-loop-i : goal.invariant-loop-i
invariant-loop-i l =
    behind_each l.names (targets_of (map target_of (drop l.i l.targets))) l.w ≡ behind_each l.names (targets_of (map target_of l.targets)) l.fn.w
