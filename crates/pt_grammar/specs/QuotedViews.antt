-- Strings as they are read, as plain data.
use Rattle.std.specs.Prelude.{List}
use Rattle.pt_grammar.specs.declared.pieces.Pieces as code
use Rattle.pt_grammar.specs.declared.pieces.Quotes.{Quotes}
use Rattle.pt_grammar.specs.Nodes.{OnePiece, Quoted, quoted}
use Rattle.pt_grammar.specs.PieceViews.{pieces_read}

abbrev pub parts_read : code.Pieces → List OnePiece
parts_read ps = pieces_read ps.items.items

abbrev pub quoted_read : Quotes → Quoted
quoted_read q = quoted q.formatted (parts_read q.pieces)
