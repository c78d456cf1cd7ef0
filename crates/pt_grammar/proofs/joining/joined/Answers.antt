use Rattle.std.proofs.Common.{◌≡◌, ◌∷◌, [], ◌++◌, List, length, refl, sym, ap, ◌∙◌, append_assoc, append-nil, arith}
use Rattle.std.specs.Vec.Iter.{into_iter_items}
use Rattle.pt_grammar.specs.Nodes.{OnePiece, pieces_of}
use Rattle.pt_grammar.specs.PieceViews.{piece_read, pieces_read}
use Rattle.pt_grammar.proofs.Depths.{map_snoc}
use Rattle.pt_grammar.proofs.joining.joined.Goals as goal

nothing_left : {X : Type 0} (l : List X) → length l ≡ 0 → l ≡ []
nothing_left [] h = refl
nothing_left (x ∷ xs) h = absurd (omega arith)

pub loop-piece-preserved : goal.loop-piece-preserved
loop-piece-preserved c =
    let at = c.loop-piece in
    let p = c.in-Some.piece in
    let steps : into_iter_items at.piece-iterator ≡ p ∷ into_iter_items c.next.new.self = c.in-Some.ensures.steps.0 in
    let was = at.invariant.len in
    let gone = c.in-Some.ensures.steps.1 in
    let short = ap length steps in
    let more : (r : List OnePiece) → pieces_read at.yielded ++ (piece_read p ∷ r) ≡ pieces_read (at.yielded ++ (p ∷ [])) ++ r = λ r. rw (map_snoc piece_read at.yielded p, append_assoc) refl in record {
      order = append_assoc at.yielded (p ∷ []) _ ∙ rw (← steps) at.invariant.order;
      len = omega arith;
      same = λ r. c.in_ok-joining.ensures r ∙ at.invariant.same (piece_read p ∷ r) ∙ ap pieces_of (more r);
    }

pub returns : goal.returns
returns c =
    let at = c.loop-piece in
    let none = c.in-None.ensures.steps in
    let empty : into_iter_items at.piece-iterator ≡ [] = nothing_left _ (sym at.invariant.len ∙ none.0) in
    let all = sym (append-nil at.yielded) ∙ rw empty at at.invariant.order ∙ c.into_iter-piece-iterator.ensures.into_iter_gives.0 in
    rw (c.from_vec.ensures) (c.in_ok-ended.ensures [] tt ∙ at.invariant.same [] ∙ ap pieces_of (append-nil (pieces_read at.yielded) ∙ ap pieces_read all))
