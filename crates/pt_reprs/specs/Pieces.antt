-- A text that is written piece by piece, up to the greatest length of a text.
use Rattle.std.specs.Prelude.{◌≡◌, ℕ, ◌-◌, List, [], ◌∷◌, ◌++◌, length, nat_le, Result, Ok, Err, if◌then◌else◌}
use Rattle.std.specs.Str.{chars}
use Rattle.pt_reprs.specs.declared.writer.WriteErr.{WriteErr}
use Rattle.pt_reprs.specs.declared.writer.WriteErr.TheVariants.{Length}
use Rattle.pt_base.specs.declared.failure.Failure.{Failure}
use Rattle.pt_base.specs.declared.failure.Failure.TheVariants.{Refused, Memory}
use Rattle.pt_reprs.specs.declared.writer.Writer.{Writer}

-- a part of a text, or what keeps it from being written
abbrev pub Piece : Type 0
Piece = Result (List ℕ) WriteErr

-- a text that may have so many characters more
abbrev pub writer : (text : List ℕ) (room : ℕ) → Writer
writer t n = record { text = t; room = n }

abbrev pub with_piece : Piece → Writer → Result Writer WriteErr
with_piece (Ok t) w = if nat_le (length (chars t)) w.room then Ok (writer (w.text ++ t) (w.room - length (chars t))) else Err Length
with_piece (Err e) w = Err e

abbrev pub and_pieces : (Writer → Result Writer WriteErr) → Result Writer WriteErr → Result Writer WriteErr
and_pieces more (Ok w) = more w
and_pieces more (Err e) = Err e

-- one piece behind the other, up to the first that can't be written
abbrev pub with_pieces : List Piece → Writer → Result Writer WriteErr
with_pieces [] w = Ok w
with_pieces (p ∷ ps) w = and_pieces (with_pieces ps) (with_piece p w)

abbrev pub text_of : Result Writer WriteErr → Result (List ℕ) WriteErr
text_of (Ok w) = Ok w.text
text_of (Err e) = Err e

-- the text of pieces, if it has at most so many characters
abbrev pub written : (room : ℕ) → List Piece → Result (List ℕ) WriteErr
written room ps = text_of (with_pieces ps (writer [] room))

-- the pieces were written, unless memory ran out
abbrev pub Writes : (old new : Writer) → Result (Unit {0}) (Failure WriteErr) → List Piece → Type 0
Writes old new (Ok u) ps = with_pieces ps old ≡ Ok new
Writes old new (Err Memory) ps = Unit {0}
Writes old new (Err (Refused e)) ps = with_pieces ps old ≡ Err e
