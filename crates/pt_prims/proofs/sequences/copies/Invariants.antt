use Rattle.std.proofs.Common.{◌≡◌}
use Rattle.pt_strs.specs.Join.{copies}
use Rattle.pt_prims.proofs.sequences.copies.Given as goal

abbrev pub invariant-loop-turn : goal.invariant-loop-turn
invariant-loop-turn l = l.all ≡ copies l._turn l.text
