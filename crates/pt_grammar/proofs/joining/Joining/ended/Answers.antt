use Rattle.std.proofs.Common.{map, refl, sym, ◌∙◌, ap}
use Rattle.pt_tree.specs.Fold.{chained}
use Rattle.pt_wide.specs.Fold.{piece_of}
use Rattle.pt_wide.specs.declared.expression.WidePiece.TheVariants as piece
use Rattle.pt_wide.proofs.Folds.{piece_of-Literal}
use Rattle.pt_grammar.specs.Nodes.{pieces_of}
use Rattle.pt_readers.proofs.Exits.{is_not, is_so}
use Rattle.pt_grammar.proofs.Depths.{map_snoc}
use Rattle.pt_grammar.proofs.PieceLemmas.{chained_snoc, no_text_left, text_left}
use Rattle.pt_grammar.proofs.joining.Joining.ended.Goals as goal

pub returns-then-is_empty : goal.returns-then-is_empty
returns-then-is_empty c = λ r n. rw (c.in-Some.is, is_so c.is_empty.ensures c.if-is_empty.true) (ap (λ p. chained p (map piece_of c.args.self.done.items)) (sym (no_text_left c.in-Some.field-0.line.0 r n)))

pub returns : goal.returns
returns c = λ r n.
    let f = piece.Literal c.in-Some.field-0.line c.in-Some.field-0.text in
    let ps = c.args.self.done.items in
    rw (c.in-Some.is, c.in_ok-push.ensures.items)
    (ap (chained (pieces_of r)) (map_snoc piece_of ps f)
    ∙ chained_snoc (pieces_of r) (map piece_of ps) (piece_of f)
    ∙ ap (λ p. chained p (map piece_of ps)) (piece_of-Literal f (pieces_of r) c.in-Some.field-0.line c.in-Some.field-0.text refl ∙ sym (text_left c.in-Some.field-0.line.0 c.in-Some.field-0.text r n (λ e. is_not c.is_empty.ensures c.if-is_empty.false e))))
