use Rattle.std.proofs.Common.{◌≡◌, ◌++◌, drop, map}
use Rattle.pt_tree.specs.Fold.{target_of, targets_of}
use Rattle.pt_tree.specs.Acts.{acts_all_deleted}
use Rattle.pt_acts.proofs.statement_rows.+deleted.Given as goal

abbrev pub invariant-push_all_deleted-loop-target : goal.invariant-push_all_deleted-loop-target
invariant-push_all_deleted-loop-target l = l.rows ++ acts_all_deleted (targets_of (map target_of (drop l.target-index l.targets))) ≡ l.fn.rows ++ acts_all_deleted (targets_of (map target_of l.targets))
