use Rattle.std.proofs.Common.{◌≡◌}
use Rattle.std.specs.List.{list_any}
use Rattle.sem_names.specs.Naming.{comes_through, is_block}
use Rattle.sem_names.specs.Regions.{before}
use Rattle.pt_symbols.proofs.places.PlaceTable.comes_through.Given as goal

abbrev pub invariant-loop-left : goal.invariant-loop-left
invariant-loop-left l = list_any (is_block l.self) (before l.left l.self.regions l.owner l.at) ≡ comes_through l.self l.owner l.region

abbrev pub decreases-loop-left : goal.decreases-loop-left
decreases-loop-left l = l.left
