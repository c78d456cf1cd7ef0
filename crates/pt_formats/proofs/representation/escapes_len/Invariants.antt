use Rattle.std.proofs.Common.{◌≡◌, ◌+◌, ◌^◌, ◌<◌, length}
use Rattle.std.specs.Str.{chars}
use Rattle.pt_strs.specs.Answer.{counted}
use Rattle.pt_formats.specs.Repr.{escapes}
use Rattle.pt_formats.proofs.representation.escapes_len.Given as goal

abbrev pub invariant-loop-c : goal.invariant-loop-c
invariant-loop-c l = record {
  whole : counted (l.sum + length (escapes l.quote l.scan)) ≡ counted (length (escapes l.quote (chars l.text)));
  fits : l.sum < 2 ^ 64;
}

abbrev pub decreases-loop-c : goal.decreases-loop-c
decreases-loop-c l = length l.scan
