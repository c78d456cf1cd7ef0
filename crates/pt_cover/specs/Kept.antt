-- What is kept of the events for the report of one kind, and the report that it gives.
use Rattle.std.specs.Prelude.{◌==◌, ℕ, ◌+◌, ◌*◌, List, length, map}
use Rattle.std.specs.List.{IsDistinct}
use Rattle.std.specs.Str.{bytes_eq}
use Rattle.pt_base.specs.Taken.{Pieces}
use Rattle.pt_cover.specs.declared.counts.Counts.{Counts}
use Rattle.pt_cover.specs.declared.counts.Counts.TheVariants.{Lines, Names}
use Rattle.pt_cover.specs.Pieces.{Text, kind_of, line_of, name_of}
use Rattle.pt_cover.specs.Tallies.{line_row, lines_of, lines_then, name_tally, names_of, names_then}
use Rattle.pt_cover.specs.Reports.{lines_report, names_report}
use Rattle.pt_cover.specs.Room.{names_room}

-- the counts of these events, over the same lines or names
abbrev pub counted : Counts → (events : Pieces) → Counts
counted (Lines rows) events = Lines (map (line_row events) (lines_of rows))
counted (Names t) events = Names (name_tally (names_of t.rows) events)

-- what another event makes of counts
abbrev pub counts_then : Counts → (event : Text) → Counts
counts_then (Lines rows) event = Lines (lines_then rows (kind_of event) (line_of event))
counts_then (Names t) event = Names (names_then t (kind_of event) (name_of event))

abbrev pub report_of : Counts → Text
report_of (Lines rows) = lines_report rows
report_of (Names t) = names_report t

-- no line and no name has two rows
abbrev pub HasDifferentRows : Counts → Type 0
HasDifferentRows (Lines rows) = IsDistinct (λ a b. a == b) (lines_of rows)
HasDifferentRows (Names t) = IsDistinct bytes_eq (names_of t.rows)

-- the bytes of a report, at most
abbrev pub room_for : Counts → ℕ
room_for (Lines rows) = 42 * length rows + 54
room_for (Names t) = names_room t.rows + 27
