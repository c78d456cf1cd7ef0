use Rattle.std.proofs.Common.{◌≡◌, ◌++◌, length}
use Rattle.std.specs.Prelude.{flat_map}
use Rattle.std.specs.Char.{encode_utf8}
use Rattle.std.specs.Str.{chars}
use Rattle.pt_reprs.specs.Reprs.{escaped}
use Rattle.pt_reprs.proofs.quoted.quoted.Given as goal

abbrev pub invariant-loop-c : goal.invariant-loop-c
invariant-loop-c l = l.whole ++ flat_map (escaped l.quote) l.scan ≡ encode_utf8 l.quote ++ flat_map (escaped l.quote) (chars l.text)

abbrev pub decreases-loop-c : goal.decreases-loop-c
decreases-loop-c l = length l.scan
