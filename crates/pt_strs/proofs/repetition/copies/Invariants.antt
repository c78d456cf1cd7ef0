use Rattle.std.proofs.Common.{◌≡◌}
use Rattle.std.specs.Str.{chars}
use Rattle.pt_strs.specs.Join.{copies}
use Rattle.pt_strs.proofs.repetition.copies.Given as goal

abbrev pub invariant-loop-turn : goal.invariant-loop-turn
invariant-loop-turn l = l.draft ≡ copies l._turn (chars l.text)
