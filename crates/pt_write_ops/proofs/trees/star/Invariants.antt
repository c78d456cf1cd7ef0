use Rattle.std.proofs.Common.{◌≡◌, ◌+◌, drop, map}
use Rattle.std.specs.Prelude.{option_map}
use Rattle.pt_tree.specs.Fold.{target_of, targets_of}
use Rattle.sem_control.specs.control.Statements.{star_of}
use Rattle.pt_write_ops.proofs.trees.star.Given as goal

abbrev pub invariant-loop-i : goal.invariant-loop-i
invariant-loop-i l = star_of (targets_of (map target_of l.targets)) ≡ option_map (λ k. l.i + k) (star_of (targets_of (map target_of (drop l.i l.targets))))
