use Rattle.std.proofs.Common.{◌∷◌, map, refl, ◌∙◌, ap}
use Rattle.pt_tree.specs.Fold.{chained}
use Rattle.pt_wide.specs.Syntax as S
use Rattle.pt_wide.specs.Fold.{exp_of, piece_of}
use Rattle.pt_wide.specs.declared.expression.WidePiece.TheVariants as piece
use Rattle.pt_wide.proofs.Folds.{piece_of-Field}
use Rattle.pt_grammar.specs.Nodes.{field, pieces_of}
use Rattle.pt_grammar.proofs.Depths.{map_snoc}
use Rattle.pt_grammar.proofs.PieceLemmas.{chained_snoc}
use Rattle.pt_grammar.proofs.joining.Joining.with.Goals as goal

pub returns-in_ok-push-in-Field : goal.returns-in_ok-push-in-Field
returns-in_ok-push-in-Field c = λ r.
    let f = piece.Field c.in-Field.line c.in-Field.value c.in-Field.conversion c.in-Field.spec in
    let ps = c.in_ok-done-in-Field.done.items in
    rw (c.in-Field.is, c.in_ok-push-in-Field.ensures.items)
    (ap (chained (pieces_of r)) (map_snoc piece_of ps f)
    ∙ chained_snoc (pieces_of r) (map piece_of ps) (piece_of f)
    ∙ ap (λ p. chained p (map piece_of ps)) (piece_of-Field f (pieces_of r) c.in-Field.line c.in-Field.value c.in-Field.conversion c.in-Field.spec refl)
    ∙ c.in_ok-done-in-Field.ensures (field c.in-Field.line.0 (exp_of c.in-Field.value) c.in-Field.conversion (chained S.no_pieces (map piece_of c.in-Field.spec)) ∷ r) tt)
