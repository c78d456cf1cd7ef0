use Rattle.std.proofs.Common.{◌≡◌}
use Rattle.pt_sequences.specs.Displays.{repeated}
use Rattle.pt_sequences.proofs.display.repeated.Given as goal

abbrev pub invariant-loop-turn : goal.invariant-loop-turn
invariant-loop-turn l = l.all.items ≡ repeated l._turn l.items
