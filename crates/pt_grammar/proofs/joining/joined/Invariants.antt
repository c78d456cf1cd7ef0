use Rattle.std.proofs.Common.{◌≡◌, List, ◌++◌, length}
use Rattle.std.specs.Vec.Iter.{into_iter_items, into_iter_len}
use Rattle.pt_grammar.specs.Nodes.{OnePiece, pieces_of}
use Rattle.pt_grammar.specs.PieceViews.{pieces_read}
use Rattle.pt_grammar.specs.Joining.{rejoined}
use Rattle.pt_grammar.proofs.joining.joined.Given as goal

abbrev pub invariant-loop-piece : goal.invariant-loop-piece
invariant-loop-piece l = record {
  order : l.yielded ++ into_iter_items l.piece-iterator ≡ into_iter_items l.initial.piece-iterator;
  len : into_iter_len l.piece-iterator ≡ length (into_iter_items l.piece-iterator);
  same : (r : List OnePiece) → rejoined l.joining r ≡ pieces_of (pieces_read l.yielded ++ r);
}
