-- How many parts lists have.
use Rattle.std.proofs.Common.{◌≡◌, ◌∙◌, suc, List, [], ◌∷◌, map, length, refl, ap}
use Rattle.pt_tree.specs.declared.expression.Expr.{Expr}
use Rattle.pt_tree.specs.declared.expression.Entry.{Entry}
use Rattle.pt_tree.specs.declared.expression.Piece.{Piece}
use Rattle.pt_tree.specs.declared.expression.Argument.TheOpen as open_node
use Rattle.pt_tree.specs.Syntax as S
use Rattle.pt_tree.specs.Syntax.{Pieces}
use Rattle.pt_tree.specs.Fold.{all_of, chained, entry_of, exp_of, piece_of, piece_plain, Piece-P}
use Rattle.pt_tree.proofs.Folds.{entry_of-parts, piece_of-is, opened-Piece}
use Rattle.pt_expr_forms.specs.Behind.{exps_count, entries_count, pieces_count}

pub exps_count-all : (xs : List Expr) → exps_count (all_of (map exp_of xs)) ≡ length xs
exps_count-all [] = refl
exps_count-all (x ∷ xs) = ap (λ n. suc n) (exps_count-all xs)

pub entries_count-all : (xs : List Entry) → entries_count (chained S.no_entries (map entry_of xs)) ≡ length xs
entries_count-all [] = refl
entries_count-all (x ∷ xs) = ap (λ r. entries_count r) (entry_of-parts x (chained S.no_entries (map entry_of xs))) ∙ ap (λ n. suc n) (entries_count-all xs)

plain-count : (p : Piece-P) (r : Pieces) → pieces_count (piece_plain p r) ≡ suc (pieces_count r)
plain-count (open_node.Literal l t) r = refl
plain-count (open_node.Field l e c ps) r = refl

pub pieces_count-all : (xs : List Piece) → pieces_count (chained S.no_pieces (map piece_of xs)) ≡ length xs
pieces_count-all [] = refl
pieces_count-all (x ∷ xs) =
    ap (λ (f : Pieces → Pieces). pieces_count (f (chained S.no_pieces (map piece_of xs)))) (piece_of-is x)
    ∙ plain-count (opened-Piece x) (chained S.no_pieces (map piece_of xs)) ∙ ap (λ n. suc n) (pieces_count-all xs)
