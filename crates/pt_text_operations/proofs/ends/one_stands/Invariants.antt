use Rattle.std.proofs.Common.{◌≡◌, drop}
use Rattle.std.specs.Str.{chars}
use Rattle.pt_text_operations.specs.Ends.{one_stands}
use Rattle.pt_text_operations.proofs.ends.one_stands.Given as goal

abbrev pub invariant-loop-part : goal.invariant-loop-part
invariant-loop-part l = one_stands l.end l.heap (chars l.text) (drop l.part-index l.parts) ≡ one_stands l.end l.heap (chars l.text) l.parts
