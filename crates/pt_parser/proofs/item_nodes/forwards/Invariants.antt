use Rattle.std.proofs.Common.{◌≡◌, ◌++◌, reverse, length}
use Rattle.pt_parser.proofs.item_nodes.forwards.Given as goal

abbrev pub invariant-turn : goal.invariant-turn
invariant-turn l = record { same : reverse l.fn.items ≡ l.turned ++ reverse l.left }

abbrev pub decreases-turn : goal.decreases-turn
decreases-turn l = length l.left
