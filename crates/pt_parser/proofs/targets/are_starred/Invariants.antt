use Rattle.std.proofs.Common.{◌≡◌, length, map}
use Rattle.pt_wide.specs.Fold.{exp_of, all_of}
use Rattle.pt_parser.specs.Targets.{are_starred}
use Rattle.pt_parser.proofs.targets.are_starred.Given as goal

abbrev pub invariant-items : goal.invariant-items
invariant-items l = record { same : are_starred (all_of (map exp_of l.fn.items)) ≡ are_starred (all_of (map exp_of l.left)) }

abbrev pub decreases-items : goal.decreases-items
decreases-items l = length l.left
