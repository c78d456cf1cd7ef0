-- What a piece of the log tells. An event of a run is a line (LIB `sys`, settrace): the kind of the event, the number of the line
-- and the name of the block, with a blank between them. Behind the events stand the run's totals, which begin with the word `acts`.
use Rattle.std.specs.Prelude.{◌==◌, ℕ, Bool, true, false, List, [], ◌∷◌, codes, nat_eq, Option, if◌then◌else◌}
use Rattle.std.specs.List.{starts_with, before_first, after_first}
use Rattle.std.specs.Str.{bytes_eq}
use Rattle.pt_base.specs.Taken.{Pieces}
use Rattle.pt_cover.specs.declared.told.Told.{Told}
use Rattle.pt_cover.specs.declared.told.Told.TheVariants.{Call, Line, Return, Other}
use Rattle.pt_cover.specs.Numbers.{number_of}

abbrev pub Text : Type 0
Text = List ℕ

abbrev pub is_blank : ℕ → Bool
is_blank c = c == 32

abbrev pub is_line_end : ℕ → Bool
is_line_end c = c == 10

-- the words of a piece: what stands before its first blank, behind that up to the second, and all behind that
abbrev pub told_line : Text → Text
told_line piece = before_first is_line_end piece

abbrev pub behind_kind : Text → Text
behind_kind piece = after_first is_blank (told_line piece)

abbrev pub kind_named : (word : Text) → Told
kind_named word =
    if bytes_eq word (codes "call") then Call
    else if bytes_eq word (codes "line") then Line
    else if bytes_eq word (codes "return") then Return
    else Other

abbrev pub kind_of : (piece : Text) → Told
kind_of piece = kind_named (before_first is_blank (told_line piece))

abbrev pub line_of : (piece : Text) → Option ℕ
line_of piece = number_of (before_first is_blank (behind_kind piece))

abbrev pub name_of : (piece : Text) → Text
name_of piece = after_first is_blank (behind_kind piece)

abbrev pub is_call : Told → Bool
is_call Call = true
is_call Line = false
is_call Return = false
is_call Other = false

abbrev pub is_line : Told → Bool
is_line Call = false
is_line Line = true
is_line Return = false
is_line Other = false

-- the totals: the first such piece ends the events
abbrev pub is_totals : (piece : Text) → Bool
is_totals piece = starts_with nat_eq piece (codes "acts ")

-- the events among the pieces, and what stands from the totals on
abbrev pub events_in : Pieces → Pieces
events_in [] = []
events_in (p ∷ ps) = if is_totals p then [] else p ∷ events_in ps

abbrev pub from_totals : Pieces → Pieces
from_totals [] = []
from_totals (p ∷ ps) = if is_totals p then p ∷ ps else from_totals ps
