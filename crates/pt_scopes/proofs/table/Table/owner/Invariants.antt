use Rattle.std.proofs.Common.{◌≡◌}
use Rattle.pt_scopes.specs.Scope.{owner, owner_from}
use Rattle.pt_scopes.specs.Tables.{facts_in}
use Rattle.pt_scopes.proofs.table.Table.owner.Given as goal

abbrev pub invariant-loop-left : goal.invariant-loop-left
invariant-loop-left l = owner l.left l.self.regions (facts_in l.self.names l.name) l.at ≡ owner_from l.self.regions (facts_in l.self.names l.name) l.region

abbrev pub decreases-loop-left : goal.decreases-loop-left
decreases-loop-left l = l.left
