use Rattle.std.proofs.Common.{◌≡◌, ◌++◌, length}
use Rattle.pt_reprs.specs.Shown.{shown}
use Rattle.pt_reprs.proofs.dict_view.shown.Given as goal

abbrev pub invariant-loop-entry : goal.invariant-loop-entry
invariant-loop-entry l = l.values ++ shown l.part l.left ≡ shown l.part l.dict

abbrev pub decreases-loop-entry : goal.decreases-loop-entry
decreases-loop-entry l = length l.left
