use Rattle.std.proofs.Common.{◌≡◌, ◌+◌, ◌*◌, drop}
use Rattle.pt_prims.specs.Classes.{kinship_of, kinship_of_any, tuple_kinship}
use Rattle.pt_prims.proofs.classes.+kinships.Given as goal

abbrev pub decreases-kinship_of_any : goal.decreases-kinship_of_any
decreases-kinship_of_any l = 3 * l.depth + 2

abbrev pub decreases-kinship_of : goal.decreases-kinship_of
decreases-kinship_of l = 3 * l.depth + 1

abbrev pub decreases-tuple_kinship : goal.decreases-tuple_kinship
decreases-tuple_kinship l = 3 * l.depth

abbrev pub invariant-kinship_of_any-loop-value : goal.invariant-kinship_of_any-loop-value
invariant-kinship_of_any-loop-value l =
    kinship_of_any (kinship_of (tuple_kinship l.heap l.depth l.class) l.heap l.class) (drop l.value-index l.values)
    ≡ kinship_of_any (kinship_of (tuple_kinship l.heap l.depth l.class) l.heap l.class) l.values
