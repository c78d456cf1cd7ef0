use Rattle.std.proofs.Common.{◌≡◌, take}
use Rattle.pt_literals.specs.Source.{chars_of}
use Rattle.pt_lexer.proofs.words.spells.Given as goal

abbrev pub invariant-loop-i : goal.invariant-loop-i
invariant-loop-i l = take l.i l.bytes ≡ take l.i (chars_of l.front)
