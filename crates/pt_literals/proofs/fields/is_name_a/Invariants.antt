use Rattle.std.proofs.Common.{◌≡◌, length}
use Rattle.pt_literals.specs.Literals.{is_a_behind_gap, is_name_a}
use Rattle.pt_literals.proofs.fields.is_name_a.Given as goal

abbrev pub invariant-loop-spot : goal.invariant-loop-spot
invariant-loop-spot l = is_a_behind_gap l.in_comment l.rest ≡ is_name_a l.text

abbrev pub decreases-loop-spot : goal.decreases-loop-spot
decreases-loop-spot l = length l.rest
