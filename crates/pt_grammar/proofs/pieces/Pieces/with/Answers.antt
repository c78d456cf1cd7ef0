use Rattle.std.proofs.Common.{arith}
use Rattle.pt_grammar.specs.PieceViews.{piece_read, pieces_read}
use Rattle.pt_grammar.proofs.Depths.{map_snoc}
use Rattle.pt_grammar.proofs.PieceLemmas.{depth_pieces_snoc}
use Rattle.pt_grammar.proofs.pieces.Pieces.with.Goals as goal

pub invariant_of-result : goal.invariant_of-result
invariant_of-result c = record {
  exact = rw (c.in_ok-push.ensures.items, map_snoc piece_read c.args.self.items.items c.args.next.piece)
      (omega (arith, c.max.ensures, c.args.self.exact, c.args.next.exact, depth_pieces_snoc (pieces_read c.args.self.items.items) (piece_read c.args.next.piece)));
}
