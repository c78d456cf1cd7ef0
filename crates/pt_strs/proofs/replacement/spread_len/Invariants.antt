use Rattle.std.proofs.Common.{◌≡◌, ◌+◌, ◌-◌, ◌^◌, ◌<◌, length}
use Rattle.std.specs.Str.{chars}
use Rattle.pt_strs.specs.Answer.{counted}
use Rattle.pt_strs.specs.Join.{followed}
use Rattle.pt_strs.specs.Replace.{apart}
use Rattle.pt_strs.proofs.replacement.spread_len.Given as goal

abbrev pub invariant-loop-c : goal.invariant-loop-c
invariant-loop-c l = record {
  whole : counted (l.sum + (length (followed (chars l.new) (apart l.scan)) - length (chars l.new))) ≡ counted (length (followed (chars l.new) (apart (chars l.text))));
  fits : l.sum < 2 ^ 64;
}

abbrev pub decreases-loop-c : goal.decreases-loop-c
decreases-loop-c l = length l.scan
