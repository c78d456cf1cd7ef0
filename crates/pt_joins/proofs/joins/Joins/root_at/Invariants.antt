use Rattle.std.proofs.Common.{◌<◌, ◌-◌, ℕ, length}
use Rattle.pt_joins.specs.Joins.{Root, node_at}
use Rattle.pt_joins.proofs.joins.Joins.root_at.Given as goal

abbrev pub invariant-loop-node : goal.invariant-loop-node
invariant-loop-node l = (l.node < length l.self.nodes.items) × ((r : ℕ) → Root l.self.nodes.items l.level l.node r → Root l.self.nodes.items l.level l.number r)

abbrev pub decreases-loop-node : goal.decreases-loop-node
decreases-loop-node l = 18446744073709551616 - (node_at l.self.nodes.items l.node).below
