use Rattle.std.proofs.Common.{◌≡◌, ◌∷◌, ◌++◌, drop}
use Rattle.pt_write_leaves.proofs.surroundings.inside.Given as goal

abbrev pub invariant-loop-act : goal.invariant-loop-act
invariant-loop-act l = l.within ++ drop l.act-index l.around ≡ l.fn.next ∷ l.around
