use Rattle.std.proofs.Common.{◌≡◌, ◌++◌, length, map, reverse}
use Rattle.std.specs.Str.{chars}
use Rattle.pt_text_operations.specs.Lists.{new_texts}
use Rattle.pt_text_operations.proofs.lists.objects_back.Given as goal

abbrev pub invariant-loop-last : goal.invariant-loop-last
invariant-loop-last l = l.objects ++ new_texts (map chars (reverse l.left)) ≡ new_texts (map chars (reverse l.fn.texts))

abbrev pub decreases-loop-last : goal.decreases-loop-last
decreases-loop-last l = length l.left
