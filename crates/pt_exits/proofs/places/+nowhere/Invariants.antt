use Rattle.std.proofs.Common.{◌≡◌, drop, map}
use Rattle.pt_tree.specs.Fold.{target_of, targets_of}
use Rattle.sem_control.specs.control.Statements.{all_places}
use Rattle.sem_compile.specs.stm_pieces.Needed.{is_nowhere}
use Rattle.pt_exits.proofs.places.+nowhere.Given as goal

abbrev pub invariant-is_nowhere-loop-target : goal.invariant-is_nowhere-loop-target
invariant-is_nowhere-loop-target l = is_nowhere (all_places (targets_of (map target_of l.targets)))
    ≡ is_nowhere (all_places (targets_of (map target_of (drop l.target-index l.targets))))
