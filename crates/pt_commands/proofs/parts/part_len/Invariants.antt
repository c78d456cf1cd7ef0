use Rattle.std.proofs.Common.{◌≡◌, ◌+◌, drop}
use Rattle.pt_commands.specs.Parts.{is_in, part_len}
use Rattle.pt_commands.proofs.parts.part_len.Given as goal

abbrev pub invariant-loop-i : goal.invariant-loop-i
invariant-loop-i l = l.i + part_len (is_in l.part) (drop l.i l.text) ≡ part_len (is_in l.part) l.text
