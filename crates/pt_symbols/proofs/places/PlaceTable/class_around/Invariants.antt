use Rattle.std.proofs.Common.{◌≡◌}
use Rattle.sem_names.specs.Regions.{class_around, class_of}
use Rattle.pt_symbols.proofs.places.PlaceTable.class_around.Given as goal

abbrev pub invariant-loop-left : goal.invariant-loop-left
invariant-loop-left l = class_around l.left l.self.regions l.at ≡ class_of l.self.regions l.region

abbrev pub decreases-loop-left : goal.decreases-loop-left
decreases-loop-left l = l.left
