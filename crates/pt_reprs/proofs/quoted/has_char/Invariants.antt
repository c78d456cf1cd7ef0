use Rattle.std.proofs.Common.{◌≡◌, length}
use Rattle.std.specs.Str.{chars}
use Rattle.pt_reprs.specs.Reprs.{has_char}
use Rattle.pt_reprs.proofs.quoted.has_char.Given as goal

abbrev pub invariant-loop-next : goal.invariant-loop-next
invariant-loop-next l = has_char l.c (chars l.text) ≡ has_char l.c l.scan

abbrev pub decreases-loop-next : goal.decreases-loop-next
decreases-loop-next l = length l.scan
