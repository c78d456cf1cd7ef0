use Rattle.std.proofs.Common.{◌≡◌, ◌+◌, ◌^◌, ◌<◌, length, map, drop}
use Rattle.std.specs.Str.{chars}
use Rattle.pt_strs.specs.Answer.{counted}
use Rattle.pt_strs.specs.Join.{followed}
use Rattle.pt_strs.proofs.concatenation.followed_len.Given as goal

abbrev pub invariant-loop-part : goal.invariant-loop-part
invariant-loop-part l = record {
  whole : counted (l.sum + length (followed (chars l.sep) (map chars (drop l.part-index l.parts)))) ≡ counted (l.fn.count + length (followed (chars l.sep) (map chars l.parts)));
  fits : l.sum < 2 ^ 64;
}
