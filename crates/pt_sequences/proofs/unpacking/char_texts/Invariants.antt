use Rattle.std.proofs.Common.{◌≡◌, ◌++◌, length}
use Rattle.std.specs.Str.{chars}
use Rattle.pt_sequences.specs.Unpacking.{char_texts}
use Rattle.pt_sequences.proofs.unpacking.char_texts.Given as goal

abbrev pub invariant-loop-c : goal.invariant-loop-c
invariant-loop-c l = char_texts (chars l.text) ≡ l.texts ++ char_texts l.scan

abbrev pub decreases-loop-c : goal.decreases-loop-c
decreases-loop-c l = length l.scan
