use Rattle.std.proofs.Common.{◌≡◌, ◌≤◌, ◌⊎◌, length}
use Rattle.pt_kinds.specs.Forest.{Begins, IsInside, list_at}
use Rattle.pt_kinds.proofs.forest.Forest.floor.Given as goal

abbrev pub invariant-loop-node : goal.invariant-loop-node
invariant-loop-node l = IsInside l.self l.node × (Begins (list_at l.self l.node) (list_at l.self l.list) × ((l.depth ≤ length (list_at l.self l.node)) ⊎ (l.node ≡ l.list)))

abbrev pub decreases-loop-node : goal.decreases-loop-node
decreases-loop-node l = l.node
