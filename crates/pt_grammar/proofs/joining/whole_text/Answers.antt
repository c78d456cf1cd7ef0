use Rattle.std.proofs.Common.{◌≡◌, [], ◌∷◌, ◌+◌, ◌++◌, sym, ◌∙◌, ap, take}
use Rattle.std.proofs.lemmas.List.{take_more}
use Rattle.pt_grammar.specs.Nodes.{all_text}
use Rattle.pt_grammar.specs.PieceViews.{piece_read, pieces_read}
use Rattle.pt_grammar.proofs.Depths.{map_snoc}
use Rattle.pt_grammar.proofs.PieceLemmas.{text_snoc}
use Rattle.pt_grammar.proofs.joining.whole_text.Goals as goal

pub loop-piece-preserved : goal.loop-piece-preserved
loop-piece-preserved c =
    let xs = c.args.pieces.now in
    let i = c.loop-piece.piece-index in
    let p = c.piece-item.result in
    let more : take (i + 1) xs ≡ take i xs ++ (p ∷ []) = take_more xs i p c.loop-piece-test.true ∙ ap (λ q. take i xs ++ (q ∷ [])) (sym c.piece-item.is) in
    c.in_ok-whole.ensures
    ∙ ap (λ w. w ++ all_text (piece_read p ∷ [])) c.loop-piece.invariant
    ∙ sym (text_snoc (pieces_read (take i xs)) (piece_read p))
    ∙ ap all_text (sym (map_snoc piece_read (take i xs) p) ∙ ap pieces_read (sym more))
