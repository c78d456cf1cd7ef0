-- The report of what was counted, and what the log gets of the pieces.
use Rattle.std.specs.Prelude.{ℕ, Bool, true, false, List, [], ◌∷◌, ◌++◌, codes, length, filter, flat_map, count_by, nat_lt, if◌then◌else◌}
use Rattle.std.specs.Fmt.{decimal}
use Rattle.pt_base.specs.Taken.{Pieces}
use Rattle.pt_cover.specs.declared.rows.LineCount.{LineCount}
use Rattle.pt_cover.specs.declared.rows.NameCount.{NameCount}
use Rattle.pt_cover.specs.Pieces.{Text, events_in, from_totals}
use Rattle.pt_cover.specs.Tallies.{NameTally}

-- a line of numbers, and a word and a number
abbrev pub behind_blank : ℕ → Text
behind_blank n = 32 ∷ decimal n

abbrev pub line_end : Text
line_end = 10 ∷ []

-- each line with its count, and how many of them have one
abbrev pub line_text : LineCount → Text
line_text r = decimal r.line.0 ++ behind_blank r.count ++ line_end

abbrev pub is_covered : LineCount → Bool
is_covered r = nat_lt 0 r.count

abbrev pub covered_text : (covered lines : ℕ) → Text
covered_text covered lines = codes "covered" ++ behind_blank covered ++ codes " of" ++ behind_blank lines ++ line_end

abbrev pub lines_report : List LineCount → Text
lines_report rows = flat_map line_text rows ++ covered_text (count_by is_covered rows) (length rows)

-- each name that was called: its calls, the lines of its own, and all lines within its spans; then how many lines there were
abbrev pub name_text : NameCount → Text
name_text r = r.name ++ behind_blank r.calls ++ behind_blank r.own ++ behind_blank r.all ++ line_end

abbrev pub called_text : NameCount → Text
called_text r = if nat_lt 0 r.calls then name_text r else []

abbrev pub names_report : NameTally → Text
names_report t = flat_map called_text t.rows ++ codes "lines" ++ behind_blank t.total ++ line_end

-- the log gets the events, where they are asked for; at the totals the report; the totals, where they are asked for; and the rest
abbrev pub if_asked : Bool → Pieces → Pieces
if_asked true pieces = pieces
if_asked false pieces = []

abbrev pub from_report : (totals : Bool) → (report : Text) → Pieces → Pieces
from_report totals report [] = []
from_report totals report (p ∷ ps) = report ∷ (if_asked totals (p ∷ []) ++ ps)

abbrev pub logged : (events totals : Bool) → (report : Pieces → Text) → Pieces → Pieces
logged events totals report pieces = if_asked events (events_in pieces) ++ from_report totals (report (events_in pieces)) (from_totals pieces)
