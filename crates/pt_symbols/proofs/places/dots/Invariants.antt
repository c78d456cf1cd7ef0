use Rattle.std.proofs.Common.{◌≡◌, ◌++◌, []}
use Rattle.sem_names.specs.Naming.{dotted}
use Rattle.sem_names.specs.Regions.{depth, depth_of}
use Rattle.pt_symbols.proofs.places.dots.Given as goal

abbrev pub invariant-loop-left : goal.invariant-loop-left
invariant-loop-left l = l.text ++ dotted (depth l.left l.places.regions l.at) [] ≡ dotted (depth_of l.places.regions l.region) []

abbrev pub decreases-loop-left : goal.decreases-loop-left
decreases-loop-left l = l.left
