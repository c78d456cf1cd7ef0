-- Parts of a node of which the last may go on with text.
use Rattle.std.specs.Prelude.{List, [], ◌∷◌, map, Option, Some, None}
use Rattle.pt_tree.specs.Fold.{chained}
use Rattle.pt_wide.specs.Syntax.{Pieces}
use Rattle.pt_wide.specs.Fold.{piece_of}
use Rattle.pt_grammar.specs.declared.joining.Pending.{Pending}
use Rattle.pt_grammar.specs.declared.joining.Joining as code
use Rattle.pt_grammar.specs.Nodes.{OnePiece, text, field, pieces_of}

abbrev pub pending_before : Option Pending → List OnePiece → List OnePiece
pending_before None r = r
pending_before (Some p) r = text p.line.0 p.text ∷ r

-- the parts where these stand behind them
abbrev pub rejoined : code.Joining → List OnePiece → Pieces
rejoined j r = chained (pieces_of (pending_before j.pending r)) (map piece_of j.done.items)

-- no text is next
abbrev pub NoText : List OnePiece → Type 0
NoText [] = Unit {0}
NoText (text l t ∷ r) = ⊥
NoText (field l e c s ∷ r) = Unit {0}
