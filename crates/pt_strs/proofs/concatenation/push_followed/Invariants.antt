use Rattle.std.proofs.Common.{◌≡◌, ◌++◌, map, drop}
use Rattle.std.specs.Str.{chars}
use Rattle.pt_strs.specs.Join.{followed}
use Rattle.pt_strs.proofs.concatenation.push_followed.Given as goal

abbrev pub invariant-loop-part : goal.invariant-loop-part
invariant-loop-part l = l.draft ++ followed (chars l.sep) (map chars (drop l.part-index l.parts)) ≡ l.fn.draft ++ followed (chars l.sep) (map chars l.parts)
