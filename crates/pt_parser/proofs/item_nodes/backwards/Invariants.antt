use Rattle.std.proofs.Common.{◌≡◌, ◌++◌, map, reverse, length}
use Rattle.pt_wide.specs.Fold.{exp_of}
use Rattle.pt_parser.specs.WithLeft.{plain_items}
use Rattle.pt_parser.specs.Views.{item_in}
use Rattle.pt_parser.proofs.item_nodes.backwards.Given as goal

abbrev pub invariant-turn : goal.invariant-turn
invariant-turn l = record { same : reverse (plain_items (map exp_of l.fn.contexts)) ≡ map item_in l.turned ++ reverse (plain_items (map exp_of l.left)) }

abbrev pub decreases-turn : goal.decreases-turn
decreases-turn l = length l.left
