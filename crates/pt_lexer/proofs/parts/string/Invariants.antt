use Rattle.std.proofs.Common.{length, string_bytes}
use Rattle.pt_literals.specs.declared.source.TextEnd.{TextEnd}
use Rattle.pt_lexer.specs.Progress.{InString}
use Rattle.pt_lexer.proofs.parts.string.Given as goal

abbrev pub invariant-loop-spot : goal.invariant-loop-spot
invariant-loop-spot l = (end : TextEnd) → InString end l.part l.text l.rest (string_bytes l.value)

abbrev pub decreases-loop-spot : goal.decreases-loop-spot
decreases-loop-spot l = length l.rest
