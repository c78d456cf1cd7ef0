use Rattle.std.proofs.Common.{length}
use Rattle.pt_lexer.specs.Lines.{nest, Gap}
use Rattle.pt_lexer.proofs.gaps.behind_pieces.Given as goal

abbrev pub invariant-loop-behind : goal.invariant-loop-behind
invariant-loop-behind l = Gap l.end (nest l.fn.mode l.opened) l.text l.rest

abbrev pub decreases-loop-behind : goal.decreases-loop-behind
decreases-loop-behind l = length l.rest
