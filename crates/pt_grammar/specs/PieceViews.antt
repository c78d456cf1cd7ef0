-- Parts of strings as they are read, as plain data.
use Rattle.std.specs.Prelude.{List, map}
use Rattle.pt_tree.specs.Fold.{chained}
use Rattle.pt_wide.specs.Syntax as S
use Rattle.pt_wide.specs.Fold.{exp_of, piece_of}
use Rattle.pt_grammar.specs.declared.piece.Piece.{Piece}
use Rattle.pt_grammar.specs.declared.piece.Piece.TheVariants.{Text, Field}
use Rattle.pt_grammar.specs.Nodes.{OnePiece, text, field}

abbrev pub piece_read : Piece → OnePiece
piece_read (Text l t) = text l.0 t
piece_read (Field l e c ps) = field l.0 (exp_of e) c (chained S.no_pieces (map piece_of ps))

abbrev pub pieces_read : List Piece → List OnePiece
pieces_read ps = map piece_read ps
