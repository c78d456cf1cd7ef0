use Rattle.std.proofs.Common.{◌≡◌, take}
use Rattle.pt_grammar.specs.Nodes.{all_text}
use Rattle.pt_grammar.specs.PieceViews.{pieces_read}
use Rattle.pt_grammar.proofs.joining.whole_text.Given as goal

abbrev pub invariant-loop-piece : goal.invariant-loop-piece
invariant-loop-piece l = l.whole ≡ all_text (pieces_read (take l.piece-index l.pieces))
