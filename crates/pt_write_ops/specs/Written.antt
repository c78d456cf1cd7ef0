-- Pieces of a few operations.
use Rattle.std.specs.Prelude.{List, [], ◌∷◌, Bool, true, false}
use Rattle.pt_tree.specs.Syntax as S
use Rattle.pt_tree.specs.Syntax.{Tgt}
use Rattle.sem_control.specs.control.Turn.{Variable}
use Rattle.pt_assembler.specs.Piece.{Piece, empty, move, ◌▸◌}
use Rattle.sem_compile.specs.emitter.Ops.{push_cell}

-- the cells of variables
abbrev pub cells_piece : List Variable → Piece
cells_piece [] = empty
cells_piece (x ∷ xs) = move (push_cell x) ▸ cells_piece xs

abbrev pub is_starred : Tgt → Bool
is_starred (S.single p) = false
is_starred (S.several l f ts) = false
is_starred (S.starred l t) = true
