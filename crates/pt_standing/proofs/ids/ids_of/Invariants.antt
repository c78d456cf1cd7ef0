use Rattle.pt_standing.specs.Texts.{Knows}
use Rattle.pt_standing.proofs.ids.ids_of.Given as goal

abbrev pub invariant-loop-number : goal.invariant-loop-number
invariant-loop-number l = Knows l.texts l.number l.known l.ids.items
