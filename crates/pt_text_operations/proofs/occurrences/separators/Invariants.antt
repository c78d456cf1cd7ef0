use Rattle.std.proofs.Common.{◌≡◌, ◌+◌, ◌≤◌, length}
use Rattle.std.specs.Str.{chars}
use Rattle.pt_strs.specs.Cut.{all_pieces, pieces}
use Rattle.pt_text_operations.proofs.occurrences.separators.Given as goal

abbrev pub invariant-loop-front : goal.invariant-loop-front
invariant-loop-front l = record {
  within : l.left ≤ l.most;
  enough : length l.scan ≤ l.left;
  whole : length (pieces l.left (chars l.part) l.scan) + l.most ≡ length (all_pieces (chars l.part) (chars l.text)) + l.left;
}

abbrev pub decreases-loop-front : goal.decreases-loop-front
decreases-loop-front l = length l.scan
